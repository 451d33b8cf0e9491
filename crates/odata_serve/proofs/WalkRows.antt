-- The rows of a command whose arguments take one value each, where `clap`'s walk has no fault: each row has one value, which its argument
-- accepts, and each required argument has its row.
use Rattle.std.proofs.Common.{◌≡◌, ◌∙◌, ◌&&◌, ℕ, Bool, cond, true, false, not, refl, sym, ap, subst, List, [], ◌∷◌, Option, Some, None, is_some, true≢false}
use Rattle.std.specs.List.{find, fold, list_any}
use Rattle.std.specs.Option.{option_map_or}
use Rattle.std.specs.Str.{bytes_eq}
use Rattle.std.proofs.lemmas.Bool.{or_parts}
use Rattle.std.proofs.lemmas.Option.{none-some, same_Some}
use Rattle.std.proofs.lemmas.Slice.Eq.{bytes_eq-Decides}
use Rattle.clap.specs.Lexer.{long_of}
use Rattle.clap.specs.Facts.{explicit_source}
use Rattle.clap.specs.Walk.{Held, Names, Row, Rule, Step, Text, Waiting, Walk, after_step, arg_by_id, arg_by_index, default_rows, has_row, is_pending, long_or_other, next, nothing_held, reading_by, rows_after, settled, subcommand, subcommand_met, subcommand_or_other, takes_several, to_positional, trailing, walked_from, value, walk, walk_from, walked, with_default, word_met, positional_held}
use Rattle.clap.specs.Simple.{Shape}
use Rattle.clap.specs.Takes.{is_given}
use Rattle.clap.specs.Kinds.{or_else}
use Rattle.clap.specs.Faults.{stray_fault, flag_word_fault, level_fault, other_fault, positional_fault, settle_fault, step_fault, turn_fault, walk_fault, word_fault}
use Rattle.odata_serve.proofs.PlainRules.{IsOne, ArePlain, Fits, AllFit, both_none, last_check}
use Rattle.odata_serve.proofs.PlainWalk.{settle_keeps, flag_keeps}

-- ---- one level of a parse

module _ (s : Shape) (plain : ArePlain s.rules s.rules) (once : s.args_override_self ≡ false) where
  abbrev c : List Rule
  c = s.rules

  word_keeps : (names : Names) (is_trailing : Bool) (waiting : Waiting) (position : ℕ) (word : Text) (h : Held)
      → word_fault s names is_trailing waiting word h ≡ [] → AllFit c h.rows → AllFit c (word_met c names is_trailing waiting position word h).0.rows
  word_keeps names true waiting position word h e fit = fit
  word_keeps names false waiting position word h e fit = go (subcommand_met names waiting word) e
    where
      other : (b : Bool) → cond b [] (flag_word_fault c s.args_override_self (long_of word) word h) ≡ []
          → AllFit c (cond b (h, trailing position) (long_or_other c waiting word (long_of word) h)).0.rows
      other true e = fit
      other false e = flag_keeps c plain s.args_override_self once waiting word h e fit

      go : (o : Option Text) → other_fault s o word h ≡ [] → AllFit c (subcommand_or_other c o waiting position word h).0.rows
      go (Some name) e = fit
      go None e = other (bytes_eq word (45 ∷ 45 ∷ [])) e

  positional_keeps : (a : Rule) (word : Text) (h : Held) → positional_fault c s.args_override_self a h ≡ [] → AllFit c h.rows
      → AllFit c (positional_held c a word h).rows
  positional_keeps a word h e fit = go (is_pending a h.pending && takes_several a) e
    where
      go : (b : Bool) → cond b [] (settle_fault c s.args_override_self h) ≡ [] → AllFit c (cond b h (settled c h)).rows
      go true e = fit
      go false e = settle_keeps c plain s.args_override_self once h e fit

  step_keeps : (word : Text) (w : Walk) (h : Held) (step : Step) → step_fault s w.position h step ≡ [] → AllFit c h.rows
      → AllFit c (after_step c word w h step).held.rows
  step_keeps word w h (next waiting) e fit = fit
  step_keeps word w h (trailing position) e fit = fit
  step_keeps word w h (subcommand name) e fit = fit
  step_keeps word w h value e fit = go (arg_by_index c w.position) e
    where
      go : (o : Option Rule) → option_map_or (λ a. positional_fault c s.args_override_self a h) o (stray_fault s) ≡ []
          → AllFit c (to_positional c o word w h).held.rows
      go None e = fit
      go (Some a) e = positional_keeps a word h e fit

  turn_keeps : (names : Names) (w : Walk) (word : Text) → turn_fault s names w word ≡ [] → AllFit c w.held.rows
      → AllFit c (walked c names w word).held.rows
  unfolding walked
  turn_keeps names w word e fit = go w.stopped e
    where
      go : (o : Option (Text × List Text))
          → cond (is_some o) [] (or_else (word_fault s names w.is_trailing w.waiting word w.held)
          (step_fault s w.position (word_met c names w.is_trailing w.waiting w.position word w.held).0
          (word_met c names w.is_trailing w.waiting w.position word w.held).1)) ≡ []
          → AllFit c (walked_from c names o w word).held.rows
      go (Some p) e = fit
      go None e =
          let parts = both_none _ _ e in
          let met = word_met c names w.is_trailing w.waiting w.position word w.held in
          step_keeps word w met.0 met.1 parts.1 (word_keeps names w.is_trailing w.waiting w.position word w.held parts.0 fit)

  walk_keeps : (names : Names) (w : Walk) (words : List Text) → walk_fault s names w words ≡ [] → AllFit c w.held.rows
      → AllFit c (fold (walked c names) w words).held.rows
  unfolding walk_fault
  walk_keeps names w [] e fit = fit
  walk_keeps names w (word ∷ words) e fit =
      let parts = both_none _ _ e in
      walk_keeps names (walked c names w word) words parts.1 (turn_keeps names w word parts.0 fit)

  defaults_same : (rules : List Rule) (rows : List Row) → ArePlain c rules → fold with_default rows rules ≡ rows
  defaults_same [] rows h = refl
  defaults_same (a ∷ rules) rows h = ap (λ (rs : List Row). fold with_default rs rules) (go (has_row a.id rows)) ∙ defaults_same rules rows h.1
    where
      go : (b : Bool) → cond b rows (default_rows a.id (reading_by a) a.defaults rows) ≡ rows
      go true = refl
      go false = ap (λ (vs : List Text). default_rows a.id (reading_by a) vs rows) h.0.bare

  -- where a level has no fault, its rows fit, and no required argument is missing
  level_rows : (words : List Text) → s.subcommand_negates_reqs ≡ false → level_fault s [] nothing_held words false [] ≡ []
      → AllFit c (rows_after c [] words)
      × (list_any (λ a. a.required && not (is_given a.id (rows_after c [] words))) c ≡ false)
  level_rows words lifts e =
      let end = (walk c [] nothing_held words).held in
      let walked_well = both_none _ _ e in
      let settled_well = both_none _ _ walked_well.1 in
      let checked = both_none _ _ settled_well.1 in
      let fit = settle_keeps c plain s.args_override_self once end settled_well.0 (walk_keeps [] (walk_from nothing_held) words walked_well.0 tt) in
      let missing = list_any (λ a. a.required && not (is_given a.id (rows_after c [] words))) c in
      let wanted : not (s.subcommand_negates_reqs && false) && missing ≡ false = last_check _ _ _ checked.1 in (
        subst (AllFit c) (sym (defaults_same c (settled c end).rows plain)) fit,
        subst (λ (b : Bool). not (b && false) && missing ≡ false) lifts wanted,
      )

-- the argument has one row, of one value
abbrev pub HasOne : Rule → List Row → Type 0
HasOne a rows = (r : Row) × (find (λ x. bytes_eq x.id a.id) rows ≡ Some r) × IsOne a r

row_fits : (c : List Rule) (rows : List Row) (id : Text) (r : Row) → AllFit c rows → find (λ x. bytes_eq x.id id) rows ≡ Some r
    → (bytes_eq r.id id ≡ true) × Fits c r
row_fits c [] id r h e = absurd (none-some _ e)
row_fits c (x ∷ rows) id r h e = go (bytes_eq x.id id) refl (λ f. row_fits c rows id r h.1 f) e
  where
    go : (b : Bool) → bytes_eq x.id id ≡ b → (find (λ y. bytes_eq y.id id) rows ≡ Some r → (bytes_eq r.id id ≡ true) × Fits c r)
        → cond b (Some x) (find (λ y. bytes_eq y.id id) rows) ≡ Some r → (bytes_eq r.id id ≡ true) × Fits c r
    go true is behind e = subst (λ (y : Row). (bytes_eq y.id id ≡ true) × Fits c y) (same_Some _ _ e) (is, h.0)
    go false is behind e = behind e

one_row : (c : List Rule) (rows : List Row) (a : Rule) → AllFit c rows → arg_by_id c a.id ≡ Some a → is_given a.id rows ≡ true → HasOne a rows
one_row c rows a h own given = go (find (λ x. bytes_eq x.id a.id) rows) refl given
  where
    go : (o : Option Row) → find (λ x. bytes_eq x.id a.id) rows ≡ o → option_map_or (λ r. explicit_source r.source) o false ≡ true → HasOne a rows
    go None is e = absurd (true≢false (sym e))
    go (Some r) is e =
        let fits = row_fits c rows a.id r h is in
        let same : r.id ≡ a.id = (bytes_eq-Decides r.id a.id).0 fits.0 in
        let found : arg_by_id c a.id ≡ Some fits.1.0 = subst (λ (t : Text). arg_by_id c t ≡ Some fits.1.0) same fits.1.1 in
        (r, is, subst (λ (b : Rule). IsOne b r) (same_Some _ _ (sym found ∙ own)) fits.1.2)

abbrev pub EachHasOne : List Rule → List Row → Type 0
EachHasOne [] rows = Unit {0}
EachHasOne (a ∷ rules) rows = (a.required ≡ true → HasOne a rows) × EachHasOne rules rows

each_one : (c rules : List Rule) (rows : List Row) → ArePlain c rules → AllFit c rows
    → list_any (λ a. a.required && not (is_given a.id rows)) rules ≡ false → EachHasOne rules rows
each_one c [] rows h fit e = tt
each_one c (a ∷ rules) rows h fit e =
    let parts = or_parts _ _ e in
    ((λ wanted. one_row c rows a fit h.0.own (given a.required (is_given a.id rows) wanted parts.0)), each_one c rules rows h.1 fit parts.1)
  where
    given : (wanted got : Bool) → wanted ≡ true → (wanted && not got) ≡ false → got ≡ true
    given true true w e = refl
    given true false w e = absurd (true≢false e)
    given false got w e = absurd (true≢false (sym w))

-- where a subcommand of plain rules has no fault, each of its required arguments has one row, of one value
pub required_rows : (s : Shape) (words : List Text) → ArePlain s.rules s.rules → s.args_override_self ≡ false → s.subcommand_negates_reqs ≡ false
    → level_fault s [] nothing_held words false [] ≡ [] → EachHasOne s.rules (rows_after s.rules [] words)
required_rows s words plain once lifts e =
    let rows = level_rows s plain once words lifts e in
    each_one s.rules s.rules (rows_after s.rules [] words) plain rows.0 rows.1
