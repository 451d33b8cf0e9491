-- Where a parser of a list is.
use Rattle.std.proofs.Common.{◌≡◌, ◌≢◌, ◌<◌, List, [], ◌∷◌, ◌++◌, length, refl, sym, arith, append-nil, append_assoc, ap, subst, ◌∙◌}
use Rattle.odata_lex.specs.Token.{TokenOf}
use Rattle.odata_lex.specs.declared.token.TokenKind.{TokenKind}
use Rattle.odata_lex.specs.declared.token.TokenKind.TheVariants.{Text, Date, Decimal, Number, Word, Dollar, OpenParenthesis, CloseParenthesis, Comma, Slash, Minus, Star, EqualsSign}
use Rattle.odata_parse.specs.List.{Separated, last_item, more_items, Enclosed, enclosed}
use Rattle.odata_parse.specs.Parsing.{IsSeparator, IsCloseOrSeparator, IsAfterItem, IsAfterList}

-- after an item the tokens go on with these items
pub data GoesOn {A : Type 0} (Item : List TokenOf → A → List TokenOf → Type 0) (sign : TokenKind) : List TokenOf → List A → List TokenOf → Type 0 where
  no_more : {after : List TokenOf} → GoesOn Item sign after [] after
  with_more : {s : TokenOf} {mid after : List TokenOf} {xs : List A} → s.kind ≡ sign → Separated Item sign mid xs after → GoesOn Item sign (s ∷ mid) xs after

GoesOn-join : {A : Type 0} {Item : List TokenOf → A → List TokenOf → Type 0} {sign : TokenKind} {before mid after : List TokenOf} {x : A} {xs : List A} → Item before x mid → GoesOn Item sign mid xs after → Separated Item sign before (x ∷ xs) after
GoesOn-join i no_more = last_item i
GoesOn-join i (with_more e s) = more_items i e s

Separated-split : {A : Type 0} {Item : List TokenOf → A → List TokenOf → Type 0} {sign : TokenKind} {before after : List TokenOf} {xs : List A} → Separated Item sign before xs after → (x : A) × (ys : List A) × (mid : List TokenOf) × (xs ≡ x ∷ ys) × Item before x mid × GoesOn Item sign mid ys after
Separated-split (last_item {after} {x} i) = (x, [], after, refl, i, no_more)
Separated-split (more_items {mid} {s} {x} {xs} i e r) = (x, xs, s ∷ mid, refl, i, with_more e r)

separator_ends : (sign : TokenKind) → IsSeparator sign → IsCloseOrSeparator sign
separator_ends Comma h = tt
separator_ends Slash h = tt
separator_ends Text h = absurd h
separator_ends Date h = absurd h
separator_ends Decimal h = absurd h
separator_ends Number h = absurd h
separator_ends Word h = absurd h
separator_ends Dollar h = absurd h
separator_ends OpenParenthesis h = absurd h
separator_ends CloseParenthesis h = absurd h
separator_ends Minus h = absurd h
separator_ends Star h = absurd h
separator_ends EqualsSign h = absurd h

close_is_none : (sign : TokenKind) → IsSeparator sign → CloseParenthesis ≢ sign
close_is_none sign h e = absurd (subst IsSeparator (sym e) h)

pub list_item_ends : (after : List TokenOf) → IsAfterList after → IsAfterItem after
list_item_ends [] h = tt
list_item_ends (t ∷ after) h = rw h tt

GoesOn-ends : {A : Type 0} {Item : List TokenOf → A → List TokenOf → Type 0} {sign : TokenKind} {mid after : List TokenOf} {xs : List A} → IsSeparator sign → GoesOn Item sign mid xs after → IsAfterList after → IsAfterItem mid
GoesOn-ends {after} h no_more e = list_item_ends after e
GoesOn-ends {sign} h (with_more is s) e = rw is (separator_ends sign h)

-- these items are read so far, and each longer list goes on from them
pub record Midway {A : Type 0} (Item : List TokenOf → A → List TokenOf → Type 0) (sign : TokenKind) (old now : List TokenOf) (xs : List A) : Type 0 where
  pub found : (ys : List A) (after : List TokenOf) → GoesOn Item sign now ys after → Separated Item sign old (xs ++ ys) after
  pub each : (zs : List A) (after : List TokenOf) → Separated Item sign old zs after → IsAfterList after → (ys : List A) × (zs ≡ xs ++ ys) × GoesOn Item sign now ys after
  pub shorter : length now < length old

-- an item parser would read nothing else
abbrev pub IsOnlyItem : {A : Type 0} → (List TokenOf → A → List TokenOf → Type 0) → List TokenOf → A → List TokenOf → Type 0
IsOnlyItem {A} Item old x now = (y : A) (after : List TokenOf) → Item old y after → IsAfterItem after → (x ≡ y) × (now ≡ after)

GoesOn-rest : {A : Type 0} {Item : List TokenOf → A → List TokenOf → Type 0} {sign : TokenKind} {s : TokenOf} {mid after : List TokenOf} {xs : List A} → IsSeparator sign → GoesOn Item sign (s ∷ mid) xs after → s.kind ≡ sign → IsAfterList after → Separated Item sign mid xs after
GoesOn-rest {sign} h no_more e end = absurd (close_is_none sign h (sym end ∙ e))
GoesOn-rest h (with_more is r) e end = r

GoesOn-next : {A : Type 0} {Item : List TokenOf → A → List TokenOf → Type 0} {sign : TokenKind} {s : TokenOf} {mid after : List TokenOf} {xs : List A} → IsSeparator sign → GoesOn Item sign (s ∷ mid) xs after → s.kind ≡ sign → IsAfterList after → (x : A) × (ys : List A) × (rest : List TokenOf) × (xs ≡ x ∷ ys) × Item mid x rest × GoesOn Item sign rest ys after
GoesOn-next h g e end = Separated-split (GoesOn-rest h g e end)

pub Midway-init : {A : Type 0} (Item : List TokenOf → A → List TokenOf → Type 0) (sign : TokenKind) (old now : List TokenOf) (x : A) → IsSeparator sign → Item old x now → IsOnlyItem Item old x now → length now < length old → Midway Item sign old now (x ∷ [])
Midway-init Item sign old now x h i only short = record {
  found = λ ys after g. GoesOn-join i g;
  each = λ zs after s e.
      let f = Separated-split s in
      let o = only f.0 f.2 f.4 (GoesOn-ends h f.5 e) in
      (f.1, rw (o.0) f.3, rw (o.1) f.5);
  shorter = short;
}

pub Midway-more : {A : Type 0} (Item : List TokenOf → A → List TokenOf → Type 0) (sign : TokenKind) (old now mid new : List TokenOf) (s : TokenOf) (xs : List A) (x : A) → IsSeparator sign → Midway Item sign old now xs → now ≡ s ∷ mid → s.kind ≡ sign → Item mid x new → IsOnlyItem Item mid x new → length new < length mid → Midway Item sign old new (xs ++ x ∷ [])
Midway-more Item sign old now mid new s xs x h m is e i only short = record {
  found = λ ys after g. rw append_assoc (m.found (x ∷ ys) after (rw is (with_more e (GoesOn-join i g))));
  each = λ zs after r end.
      let p = m.each zs after r end in
      let q = GoesOn-next h (rw is at p.2) e end in
      let o = only q.0 q.2 q.4 (GoesOn-ends h q.5 end) in
      (q.1, let k : zs ≡ xs ++ (q.0 ∷ q.1) = rw (← q.3) p.1 in rw (append_assoc, o.0) k, rw (o.1) q.5);
  shorter = let n : length now ≡ length (s ∷ mid) = ap length is in omega (arith, m.shorter);
}

GoesOn-stop : {A : Type 0} {Item : List TokenOf → A → List TokenOf → Type 0} {sign : TokenKind} {now after : List TokenOf} {xs : List A} → GoesOn Item sign now xs after → ((t : TokenOf) (rest : List TokenOf) → now ≡ t ∷ rest → t.kind ≢ sign) → (xs ≡ []) × (now ≡ after)
GoesOn-stop no_more none = (refl, refl)
GoesOn-stop (with_more {s} {mid} is r) none = absurd (none s mid refl is)

pub Midway-found : {A : Type 0} (Item : List TokenOf → A → List TokenOf → Type 0) (sign : TokenKind) (old now : List TokenOf) (xs : List A) → Midway Item sign old now xs → Separated Item sign old xs now
Midway-found Item sign old now xs m = rw append-nil at (m.found [] now no_more)

pub Midway-only : {A : Type 0} (Item : List TokenOf → A → List TokenOf → Type 0) (sign : TokenKind) (old now : List TokenOf) (xs : List A) → Midway Item sign old now xs → ((t : TokenOf) (rest : List TokenOf) → now ≡ t ∷ rest → t.kind ≢ sign) → (zs : List A) (after : List TokenOf) → Separated Item sign old zs after → IsAfterList after → (xs ≡ zs) × (now ≡ after)
Midway-only Item sign old now xs m none zs after s e =
    let p = m.each zs after s e in
    let q = GoesOn-stop p.2 none in
    (let k : zs ≡ xs = rw (q.0, append-nil) at p.1 in sym k, q.1)

-- what holds where no item stands first holds where no list does
pub none_first : {A : Type 0} (Item : List TokenOf → A → List TokenOf → Type 0) (sign : TokenKind) (old : List TokenOf) (P : Type 0) → IsSeparator sign → ((x : A) (after : List TokenOf) → Item old x after → IsAfterItem after → P) → (zs : List A) (after : List TokenOf) → Separated Item sign old zs after → IsAfterList after → P
none_first Item sign old P h none zs after s e = let f = Separated-split s in none f.0 f.2 f.4 (GoesOn-ends h f.5 e)

-- the same after a sign
pub none_next : {A : Type 0} (Item : List TokenOf → A → List TokenOf → Type 0) (sign : TokenKind) (old now mid : List TokenOf) (s : TokenOf) (xs : List A) (P : Type 0) → IsSeparator sign → Midway Item sign old now xs → now ≡ s ∷ mid → s.kind ≡ sign → ((x : A) (after : List TokenOf) → Item mid x after → IsAfterItem after → P) → (zs : List A) (after : List TokenOf) → Separated Item sign old zs after → IsAfterList after → P
none_next Item sign old now mid s xs P h m is e none zs after r end =
    let p = m.each zs after r end in
    let q = GoesOn-next h (rw is at p.2) e end in none q.0 q.2 q.4 (GoesOn-ends h q.5 end)

-- of items that can end where they do, one stands first
abbrev pub HasOnlyItems : {A : Type 0} → (List TokenOf → A → List TokenOf → Type 0) → Type 0
HasOnlyItems {A} Item = (old now : List TokenOf) (x : A) → Item old x now → IsAfterItem now → IsOnlyItem Item old x now

list_stops : (sign : TokenKind) (now : List TokenOf) → IsSeparator sign → IsAfterList now → (t : TokenOf) (rest : List TokenOf) → now ≡ t ∷ rest → t.kind ≢ sign
list_stops sign now h end t rest is k = close_is_none sign h (sym (subst IsAfterList is end) ∙ k)

-- so lists of them are one
pub Separated-only : {A : Type 0} {Item : List TokenOf → A → List TokenOf → Type 0} {sign : TokenKind} {old : List TokenOf} {xs : List A} {now : List TokenOf} → IsSeparator sign → HasOnlyItems Item → Separated Item sign old xs now → IsAfterList now → (zs : List A) (after : List TokenOf) → Separated Item sign old zs after → IsAfterList after → (xs ≡ zs) × (now ≡ after)
Separated-only {sign} h one (last_item {before} {after = now} {x} i) end zs after s e =
    let f = Separated-split s in
    let o = one before now x i (list_item_ends now end) f.0 f.2 f.4 (GoesOn-ends h f.5 e) in
    let q = GoesOn-stop (rw (← o.1) at f.5) (list_stops sign now h end) in
    (cc (o.0, q.0, f.3), q.1)
Separated-only {sign} h one (more_items {before} {mid} {s = t} {x} i is r) end zs after s e =
    let f = Separated-split s in
    let o = one before (t ∷ mid) x i (rw is (separator_ends sign h)) f.0 f.2 f.4 (GoesOn-ends h f.5 e) in
    let q = Separated-only h one r end f.1 after (GoesOn-rest h (rw (← o.1) at f.5) is e) e in
    (cc (o.0, q.0, f.3), q.1)

pub Enclosed-only : {A : Type 0} {Item : List TokenOf → A → List TokenOf → Type 0} {sign : TokenKind} {old : List TokenOf} {xs : List A} {now : List TokenOf} → IsSeparator sign → HasOnlyItems Item → Enclosed Item sign old xs now → (zs : List A) (after : List TokenOf) → Enclosed Item sign old zs after → (xs ≡ zs) × (now ≡ after)
Enclosed-only {now} h one (enclosed {c} p r q) zs after (enclosed {c = d} o s e) =
    let u = Separated-only h one r q zs (d ∷ after) s e in (u.0, let k : c ∷ now ≡ d ∷ after = u.1 in cc)

pub record EnclosedParts {A : Type 0} (Item : List TokenOf → A → List TokenOf → Type 0) (sign : TokenKind) (old : List TokenOf) (items : List A) (after : List TokenOf) : Type 0 where
  pub opening : TokenOf
  pub closing : TokenOf
  pub mid : List TokenOf
  pub begins : old ≡ opening ∷ mid
  pub opens : opening.kind ≡ OpenParenthesis
  pub reads : Separated Item sign mid items (closing ∷ after)
  pub closes : closing.kind ≡ CloseParenthesis

pub enclosed_parts : {A : Type 0} {Item : List TokenOf → A → List TokenOf → Type 0} {sign : TokenKind} {old after : List TokenOf} {items : List A} → Enclosed Item sign old items after → EnclosedParts Item sign old items after
enclosed_parts (enclosed {o} {c} {before} p r q) = record { opening = o; closing = c; mid = before; begins = refl; opens = p; reads = r; closes = q }
