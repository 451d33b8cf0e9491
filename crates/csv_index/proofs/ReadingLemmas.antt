-- A reading in blocks: what is known after a front of the text, and with one block more.
use Rattle.std.proofs.Common.{◌≡◌, ℕ, zero, suc, ◌+◌, ◌-◌, ◌*◌, ◌%◌, ◌^◌, ◌<◌, ◌≤◌, ◌==◌, List, [], ◌∷◌, ◌++◌, length, length-append, length-drop, append-nil, take, drop, Bool, true, false, cond, refl, sym, ap, inl, inr, ◌∙◌, subst, arith, bit_or}
use Rattle.std.specs.Prelude.{◌⊎◌, min}
use Rattle.std.specs.Vec.{vec_len}
use Rattle.std.specs.Int.{bit_at}
use Rattle.std.specs.Int.RustNames.{count_ones}
use Rattle.std.proofs.Math.Nat.{mod-eq_of_lt}
use Rattle.std.proofs.lemmas.List.{drop_all, take_all, length-take, drop-drop, nil_from_length}
use Rattle.std.proofs.lemmas.Bool.{cases_lt}
use Rattle.std.proofs.lemmas.Nat.Bits.{bit_at-lt, bit_at_above}
use Rattle.std.proofs.lemmas.Nat.{or_lt}
use Rattle.csv_grammar.specs.Faults.{IsViable}
use Rattle.csv_grammar.specs.Structure.{Role, separator, record_end, inner, AreRoles}
use Rattle.csv_grammar.specs.Following.{TextCarry, carry_of}
use Rattle.csv_grammar.specs.Laws.{OneStructure, WhatFollows}
use Rattle.quote_parity.specs.declared.carry.Masks.{Masks}
use Rattle.csv_index.specs.Blocks.{set_places, block_places, AreRanked, HasRoomFor}
use Rattle.csv_index.specs.Widths.{uncounted, roles_counted, mask_role, mask_roles}
use Rattle.csv_index.specs.declared.blocks.ByteBlocks.{ByteBlocks}
use Rattle.csv_index.specs.declared.widths.Widths.{Widths}
use Rattle.csv_index.specs.Reading.{role_places, role_open, open_after, bytes_left, HasReadBlocks, HasReadText, IsBlockReading}
use Rattle.csv_index.specs.declared.reading.Reading.{Reading}
use Rattle.csv_index.proofs.Bits.{role_places-append, role_places-length, places_from_roles, places_split, places_none, roles_by_ends, roles_split, roles_one, ones_whole}
use Rattle.csv_index.proofs.BlockLemmas.{block_places-push}
use Rattle.csv_index.proofs.WidthLemmas.{roles_counted-append, places_counted, counted_most, no_ends}
use Rattle.csv_index.proofs.TreeCounts.{open_after-append}
use Rattle.csv_index.proofs.NextBlocks.{block_roles, next_block, StepsTo, less_wide, length-next_block, length-front, next_front}

-- ---- after a front of the text

pub has_read_none : OneStructure → WhatFollows → (text : List ℕ) → HasReadText text 0 (carry_of []) [] uncounted false
has_read_none laws follows text =
    let some = laws.some [] follows.empty in
    let none : some.0 ≡ [] = nil_from_length some.0 (laws.count [] some.0 some.1) in record {
      carried = refl;
      viable = follows.empty;
      roles = [];
      are = subst (AreRoles []) none some.1;
      places = λ mark. refl;
      counted = refl;
      count = refl;
      state = refl;
    }

-- a block's bytes are its bits below its length
roles_whole : (sep eol len : ℕ) (w : Widths) → len ≤ 64 → sep < 2 ^ len → eol < 2 ^ len → roles_counted w (mask_roles sep eol 0 64) ≡ roles_counted w (mask_roles sep eol 0 len)
roles_whole sep eol len w most s e =
    let whole : len + (64 - len) ≡ 64 = omega arith in
    let v : Widths = roles_counted w (mask_roles sep eol 0 len) in
    let wide : sep < 2 ^ 64 = less_wide sep len most s in
    let none : v.places + (count_ones sep - count_ones sep) ≡ v.places = omega arith in
    ap (roles_counted w) (roles_split sep eol 0 len len (64 - len) 64 (omega arith) (omega arith))
    ∙ roles_counted-append w (mask_roles sep eol 0 len) (mask_roles sep eol len (64 - len))
    ∙ no_ends sep eol len (64 - len) v (count_ones sep) (count_ones sep) (λ k h l. bit_at_above eol len k e h) (sym (ap count_ones (mod-eq_of_lt s)))
    (sym (ap (λ k. count_ones (sep % 2 ^ k)) whole ∙ ones_whole sep wide))
    ∙ ap (λ k. record v { places = k }) none

places_whole : (at sep eol len : ℕ) → len ≤ 64 → sep < 2 ^ len → eol < 2 ^ len → set_places at (bit_or sep eol) 0 64 ≡ role_places at (mask_roles sep eol 0 len)
places_whole at sep eol len most s e =
    let here : at ≡ at + 0 = omega arith in
    places_split at (bit_or sep eol) 0 len len (64 - len) 64 (omega arith) (omega arith)
    ∙ ap (λ l. set_places at (bit_or sep eol) 0 len ++ l) (places_none at (bit_or sep eol) len (64 - len) (λ k h l. bit_at_above (bit_or sep eol) len k (or_lt len sep eol s e) h))
    ∙ append-nil (set_places at (bit_or sep eol) 0 len)
    ∙ places_from_roles at sep eol 0 len at here

open_bit : (b : ℕ) (s : Bool) → b < 2 → role_open (cond (b == 1) record_end (cond s separator inner)) ≡ b == 0
open_bit zero true h = refl
open_bit zero false h = refl
open_bit (suc zero) s h = refl
open_bit (suc (suc b)) s h = absurd (omega arith)

-- the last byte of a block says whether a record is unended
block_open : (was : Bool) (sep eol last len : ℕ) → len ≡ last + 1 → open_after was (mask_roles sep eol 0 len) ≡ bit_at eol last == 0
block_open was sep eol last len e =
    ap (open_after was) (roles_split sep eol 0 last last 1 len (omega arith) e ∙ ap (λ l. mask_roles sep eol 0 last ++ l) (roles_one sep eol last))
    ∙ open_after-append was (mask_roles sep eol 0 last) (mask_role sep eol last ∷ [])
    ∙ open_bit (bit_at eol last) (bit_at sep last == 1) (bit_at-lt eol last)

-- the counts after a front of the text: how many structural places come before the next block, and no more than there are bytes
pub record AreCounts (text : List ℕ) (blocks : List ℕ) (widths : Widths) : Type 0 where
  pub before : widths.places ≡ length (block_places 0 blocks)
  pub places : widths.places ≤ length text
  pub start : widths.start ≤ widths.places
  pub records : widths.records ≤ length text

pub read_counts : (laws : OneStructure) (text : List ℕ) (n : ℕ) (carry : TextCarry) (blocks : List ℕ) (widths : Widths) (was : Bool)
    → HasReadText text n carry blocks widths was → AreCounts text blocks widths
read_counts laws text n carry blocks widths was read =
    let most = counted_most uncounted read.roles (omega arith) in
    let size : length read.roles ≤ length text = omega (arith, laws.count (take (64 * n) text) read.roles read.are, length-take (64 * n) text) in
    let places : widths.places ≡ length (role_places 0 read.roles) = omega (arith, ap (λ (w : Widths). w.places) read.counted, places_counted uncounted 0 read.roles) in record {
      before = omega (arith, places, ap length (read.places 0));
      places = omega (arith, places, role_places-length 0 read.roles);
      start = subst (λ (w : Widths). w.start ≤ w.places) (sym read.counted) most.0;
      records = omega (arith, most.1, ap (λ (w : Widths). w.records) read.counted);
    }

-- the structure of the next block
pub record NextRoles (text : List ℕ) (n len : ℕ) (roles : List Role) (sep eol : ℕ) : Type 0 where
  pub next : List Role
  pub are : AreRoles (take (64 * (n + 1)) text) next
  pub viable : IsViable (take (64 * (n + 1)) text)
  pub is : next ≡ roles ++ mask_roles sep eol 0 len

pub next_roles : (laws : OneStructure) (text : List ℕ) (n len : ℕ) (masks : Masks) (behind : TextCarry) (roles : List Role) → AreRoles (take (64 * n) text) roles
    → StepsTo text n len masks behind → masks.fault ≡ 0 → NextRoles text n len roles masks.sep masks.eol
next_roles laws text n len masks behind roles are s none =
    let front = next_front text n len s.more s.len_is in
    let size : length (next_block text n len) ≡ len = length-next_block text n len s.more s.len_is in
    let viable : IsViable (take (64 * n) text ++ next_block text n len) = s.masks_are.viable none in
    let b = block_roles laws (take (64 * n) text) (next_block text n len) roles masks are s.masks_are viable (rw size s.sep) in record {
      next = b.next;
      are = subst (λ t. AreRoles t b.next) front b.are;
      viable = subst IsViable front viable;
      is = b.is ∙ ap (λ k. roles ++ mask_roles masks.sep masks.eol 0 k) size;
    }

-- one block more
pub has_read_more : (laws : OneStructure) (text : List ℕ) (n len last : ℕ) (masks : Masks) (carry behind : TextCarry) (blocks : List ℕ) (widths counted : Widths) (was unended : Bool)
    → HasReadText text n carry blocks widths was → StepsTo text n len masks behind → masks.fault ≡ 0
    → counted ≡ roles_counted widths (mask_roles (bit_or masks.sep masks.eol) masks.eol 0 64) → len ≡ last + 1 → unended ≡ bit_at masks.eol last == 0
    → HasReadText text (n + 1) behind (blocks ++ bit_or masks.sep masks.eol ∷ []) counted unended
has_read_more laws text n len last masks carry behind blocks widths counted was unended read s none c l u =
    let front = next_front text n len s.more s.len_is in
    let most : len ≤ 64 = omega (arith, s.len_is) in
    let next = next_roles laws text n len masks behind read.roles read.are s none in
    let ends : ℕ = bit_or masks.sep masks.eol in
    let size : length read.roles ≡ 64 * n = laws.count (take (64 * n) text) read.roles read.are ∙ length-front text n len s.more s.len_is in
    let place : (mark : ℕ) → mark + 64 * n ≡ mark + 64 * length blocks = λ mark. omega (arith, read.count) in
    let start : (mark : ℕ) → mark + 64 * n ≡ mark + length read.roles = λ mark. omega arith in record {
      carried = s.carried ∙ ap carry_of front;
      viable = next.viable;
      roles = next.next;
      are = next.are;
      places = λ mark. block_places-push mark (mark + 64 * n) blocks ends (place mark)
          ∙ ap (λ xs. xs ++ set_places (mark + 64 * n) ends 0 64) (read.places mark)
          ∙ ap (λ xs. role_places mark read.roles ++ xs) (places_whole (mark + 64 * n) masks.sep masks.eol len most s.sep s.eol ∙ ap (λ k. role_places k (mask_roles masks.sep masks.eol 0 len)) (start mark))
          ∙ sym (role_places-append mark read.roles (mask_roles masks.sep masks.eol 0 len))
          ∙ ap (role_places mark) (sym next.is);
      counted = c
          ∙ ap (roles_counted widths) (roles_by_ends masks.sep masks.eol 0 64)
          ∙ roles_whole masks.sep masks.eol len widths most s.sep s.eol
          ∙ ap (λ w. roles_counted w (mask_roles masks.sep masks.eol 0 len)) read.counted
          ∙ sym (roles_counted-append uncounted read.roles (mask_roles masks.sep masks.eol 0 len))
          ∙ ap (roles_counted uncounted) (sym next.is);
      count = length-append blocks (ends ∷ []) ∙ omega (arith, read.count);
      state = u ∙ sym (block_open (open_after false read.roles) masks.sep masks.eol last len l) ∙ sym (open_after-append false read.roles (mask_roles masks.sep masks.eol 0 len))
          ∙ ap (open_after false) (sym next.is);
    }

-- ---- block after block

-- this is left
pub record IsUnderWay (text rest : List ℕ) (r : Reading) : Type 0 where
  pub reads : IsBlockReading text r
  pub rest_is : rest ≡ drop (64 * vec_len r.blocks.masks) text

pub left_is : (text rest : List ℕ) (r : Reading) → IsUnderWay text rest r → length rest ≡ bytes_left text r
left_is text rest r going = ap length going.rest_is ∙ length-drop (64 * vec_len r.blocks.masks) text

-- all that is after the blocks, of which the last may be short
pub under_way : (text : List ℕ) (r : Reading) (at : ℕ) → at ≡ min (vec_len r.blocks.masks * 64) (length text) → IsBlockReading text r
    → IsUnderWay text (take (length text - at) (drop at text)) r
under_way text r at is reads = record {
  reads = reads;
  rest_is = take_all (length text - at) (drop at text) (omega (arith, length-drop at text)) ∙ on (cases_lt (64 * vec_len r.blocks.masks) (length text));
}
  where
    on : (64 * vec_len r.blocks.masks < length text) ⊎ (length text ≤ 64 * vec_len r.blocks.masks) → drop at text ≡ drop (64 * vec_len r.blocks.masks) text
    on (inl less) = let same : at ≡ 64 * vec_len r.blocks.masks = omega (arith, is, less) in ap (λ k. drop k text) same
    on (inr past) = drop_all at text (omega (arith, is, past)) ∙ sym (drop_all (64 * vec_len r.blocks.masks) text past)

-- nothing is read
pub none_read : OneStructure → WhatFollows → (text : List ℕ) (r : Reading) → vec_len r.blocks.masks ≡ 0 → r.blocks.masks.items ≡ [] → r.carry ≡ carry_of [] → r.widths ≡ uncounted → r.unended ≡ false
    → AreRanked [] r.blocks.before.items → HasRoomFor (length text) r.blocks → IsBlockReading text r
none_read laws follows text r n b c w u ranked room = record {
  read = rw (n, b, c, w, u) (has_read_none laws follows text);
  ranked = rw b ranked;
  within = omega (arith, n);
  room = room;
}

-- there is room for less
pub room_less : (most bytes : ℕ) (blocks : ByteBlocks) → bytes ≤ most → HasRoomFor most blocks → HasRoomFor bytes blocks
room_less most bytes blocks less room = record { masks = omega (arith, room.masks); before = omega (arith, room.before) }

-- there is room for the next block
pub room_left : (text rest : List ℕ) (r : Reading) → IsUnderWay text rest r → 0 < length rest → HasRoomFor (64 * vec_len r.blocks.masks + 1) r.blocks
room_left text rest r going some =
    room_less (length text) (64 * vec_len r.blocks.masks + 1) r.blocks (omega (arith, left_is text rest r going)) going.reads.room

-- one block more is read, of 64 bytes or of all that are left
pub one_more : (text rest : List ℕ) (r more : Reading) → IsUnderWay text rest r → 0 < length rest → HasReadBlocks text (vec_len r.blocks.masks + 1) more
    → AreRanked more.blocks.masks.items more.blocks.before.items → vec_len more.blocks.masks ≡ vec_len r.blocks.masks + 1
    → ((bytes : ℕ) → HasRoomFor bytes r.blocks → HasRoomFor bytes more.blocks) → IsBlockReading text more
one_more text rest r more going some read ranked count room =
    let size = left_is text rest r going in record {
      read = subst (λ n. HasReadBlocks text n more) (sym count) read;
      ranked = ranked;
      within = omega (arith, size, some, count);
      room = room (length text) going.reads.room;
    }

pub under_way_more : (text rest : List ℕ) (r more : Reading) → IsUnderWay text rest r → 64 ≤ length rest → HasReadBlocks text (vec_len r.blocks.masks + 1) more
    → AreRanked more.blocks.masks.items more.blocks.before.items → vec_len more.blocks.masks ≡ vec_len r.blocks.masks + 1
    → ((bytes : ℕ) → HasRoomFor bytes r.blocks → HasRoomFor bytes more.blocks) → IsUnderWay text (take (length rest - 64) (drop 64 rest)) more
under_way_more text rest r more going some read ranked count room =
    let sum : 64 * vec_len r.blocks.masks + 64 ≡ 64 * vec_len more.blocks.masks = omega (arith, count) in record {
      reads = one_more text rest r more going (omega (arith, some)) read ranked count room;
      rest_is = take_all (length rest - 64) (drop 64 rest) (omega (arith, length-drop 64 rest)) ∙ ap (drop 64) going.rest_is ∙ drop-drop 64 (64 * vec_len r.blocks.masks) text
          ∙ ap (λ k. drop k text) sum;
    }
