-- The word of a line, and what it asks for.
use Rattle.std.proofs.Common.{◌≡◌, ◌≢◌, ◌==◌, ◌∙◌, ◌++◌, ℕ, List, [], ◌∷◌, Option, Some, None, if◌then◌else◌, Err, refl, sym, ap, subst}
use Rattle.std.proofs.lemmas.List.{append_cancel_left}
use Rattle.event_scripts.specs.declared.command.Word.{Word}
use Rattle.event_scripts.specs.declared.command.Word.TheVariants.{Open, Piece, End, Turn, Take, Drop, Reload}
use Rattle.event_scripts.specs.declared.fault.CommandFault.{CommandFault}
use Rattle.event_scripts.specs.declared.fault.CommandFault.TheVariants.{Bad, NoMemory}
use Rattle.std.specs.declared.alloc.Global.{Global}
use Rattle.event_scripts.specs.Command.{BeginsWithNumber, CommandOf, IsAsked, IsCommand, IsNumber, ReadsCommand, letters}
use Rattle.event_scripts.specs.Escapes.{StandsForBytes, ReadsEscapedText}
use Rattle.event_scripts.proofs.NumberLemmas.{one_number}
use Rattle.event_scripts.proofs.TextLemmas.{same_text}

-- two letters tell the words apart
abbrev word_by : ℕ → ℕ → Word
word_by first second =
    if first == 111 then Open
    else (if first == 112 then Piece
    else (if first == 101 then End
    else (if first == 116 then (if second == 117 then Turn else Take)
    else (if first == 100 then Drop
    else Reload))))

abbrev word_at : List ℕ → Option Word
word_at [] = None
word_at (a ∷ []) = None
word_at (a ∷ b ∷ more) = Some (word_by a b)

its_word : (w : Word) (text : List ℕ) → word_at (letters w ++ text) ≡ Some w
its_word Open text = refl
its_word Piece text = refl
its_word End text = refl
its_word Turn text = refl
its_word Take text = refl
its_word Drop text = refl
its_word Reload text = refl

-- a line has one word, and one text after it
pub same_word : (v w : Word) (s t : List ℕ) → letters v ++ s ≡ letters w ++ t → (v ≡ w) × (s ≡ t)
same_word v w s t e =
    let words : Some v ≡ Some w = sym (its_word v s) ∙ ap word_at e ∙ its_word w t in
    let word : v ≡ w = cc in (
      word,
      append_cancel_left (letters v) s t (e ∙ ap (λ (u : Word). letters u ++ t) (sym word)),
    )

same_number : {text : List ℕ} {n m : ℕ} → IsNumber text n → IsNumber text m → n ≡ m
same_number h k = h.value ∙ sym k.value

one_asked : (w : Word) (text : List ℕ) (c d : CommandOf) → IsAsked w text c → IsAsked w text d → c ≡ d
one_asked Open text c d h k = h.1 ∙ sym k.1
one_asked Piece text c d (place, bytes, rest, is, begins, h) (place', bytes', rest', is', begins', k) =
    let one = one_number begins begins' in
    let places : place ≡ place' = one.0 in
    let texts : bytes ≡ bytes' = same_text rest bytes bytes' h (subst (λ (r : List ℕ). StandsForBytes r bytes') (sym one.1) k) in
    cc
one_asked End text c d (place, is, h) (place', is', k) = let same = same_number h k in cc
one_asked Turn text c d (place, is, h) (place', is', k) = let same = same_number h k in cc
one_asked Take text c d (place, room, rest, is, begins, h) (place', room', rest', is', begins', k) =
    let one = one_number begins begins' in
    let places : place ≡ place' = one.0 in
    let rooms : room ≡ room' = same_number h (subst (λ (r : List ℕ). IsNumber r room') (sym one.1) k) in
    cc
one_asked Drop text c d (place, is, h) (place', is', k) = let same = same_number h k in cc
one_asked Reload text c d h k = h.0 ∙ sym k.0

module _ (line : List ℕ) (w : Word) (text : List ℕ) (is : line ≡ letters w ++ text) where
  asked_here : (c : CommandOf) → IsCommand line c → IsAsked w text c
  asked_here c (v, t, e, h) =
      let same = same_word w v text t (sym is ∙ e) in
      let there : IsAsked w t c = subst (λ (u : Word). IsAsked u t c) (sym same.0) h in
      subst (λ (s : List ℕ). IsAsked w s c) (sym same.1) there

  -- where what stands after the word is none of its commands, the line is no command
  pub no_command : ((c : CommandOf) → ¬ (IsAsked w text c)) → (c : CommandOf) → ¬ (IsCommand line c)
  no_command none c h = none c (asked_here c h)

pub no_line : (line : List ℕ) → ((w : Word) (text : List ℕ) → line ≢ letters w ++ text) → (c : CommandOf) → ¬ (IsCommand line c)
no_line line none c (w, text, e, h) = none w text e

pub line_is_one : (line : List ℕ) (c d : CommandOf) → IsCommand line c → IsCommand line d → c ≡ d
line_is_one line c d (w, text, e, h) k = one_asked w text c d h (asked_here line w text e d k)

pub no_word : (line : List ℕ)
    → ((t : List ℕ) → line ≢ letters Open ++ t) → ((t : List ℕ) → line ≢ letters Piece ++ t) → ((t : List ℕ) → line ≢ letters End ++ t)
    → ((t : List ℕ) → line ≢ letters Turn ++ t) → ((t : List ℕ) → line ≢ letters Take ++ t) → ((t : List ℕ) → line ≢ letters Drop ++ t)
    → ((t : List ℕ) → line ≢ letters Reload ++ t) → (w : Word) (t : List ℕ) → line ≢ letters w ++ t
no_word line a b c d e f g Open = a
no_word line a b c d e f g Piece = b
no_word line a b c d e f g End = c
no_word line a b c d e f g Turn = d
no_word line a b c d e f g Take = e
no_word line a b c d e f g Drop = f
no_word line a b c d e f g Reload = g

-- where what stands after the place is no text, there is no piece
pub piece_bad : (text : List ℕ) (place : ℕ) (rest : List ℕ) → BeginsWithNumber text place rest → (fault : CommandFault)
    → ReadsEscapedText {A = Global} rest (Err fault) → ReadsCommand (IsAsked Piece text) (Err fault)
piece_bad text place rest begins Bad none = λ _ h. none h.1 (subst (λ (t : List ℕ). StandsForBytes t h.1) (sym (one_number begins h.4).1) h.5)
piece_bad text place rest begins NoMemory none = tt
