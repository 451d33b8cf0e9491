-- What `clap` holds of arguments that take one value each fits them, word by word, where its walk has no fault.
use Rattle.std.proofs.Common.{◌≡◌, ◌⊎◌, ◌∙◌, ◌&&◌, ◌++◌, ℕ, Bool, cond, true, false, not, zero, suc, refl, sym, ap, subst, List, [], ◌∷◌, length, drop, Option, Some, None, inl, inr, is_some}
use Rattle.std.specs.Prelude.{encode_utf8, slice_get}
use Rattle.std.specs.Option.{option_map_or}
use Rattle.std.specs.Str.{bytes_eq, chars}
use Rattle.std.proofs.lemmas.List.{append-nil}
use Rattle.clap.specs.Lexer.{long_of, short_of}
use Rattle.clap.specs.Facts.{unwrap_or_range}
use Rattle.clap.specs.Walk.{Held, Outcome, Row, Rule, Text, Waiting, action_of, after_flag, arg_by_id, arg_by_long, arg_by_short, attached_value, bundle_met, done, has_row, idle, long_met, long_or_other, option, option_met, plain as no_flag, plain_word, positional, reacted, reading_by, refused, settled, short_met, short_or_plain, takes_values, used, used_as, used_by_id, settled_rows, bundle, bundle_step, flag_met, has_long, has_short, option_word, values_or_missing, waits, with_values, without, more_values}
use Rattle.clap.specs.Kinds.{Kinds, or_else, range_kinds}
use Rattle.clap.specs.Faults.{action_fault, bundle_fault, bundle_step_fault, flag_word_fault, flags_fault, long_fault, option_fault, react_fault, set_fault, settle_fault, short_fault, use_fault}
use Rattle.clap.specs.declared.builder.range.ValueRange.{ValueRange}
use Rattle.clap.specs.declared.builder.action.ArgAction.{ArgAction}
use Rattle.clap.specs.declared.builder.action.ArgAction.TheVariants.{Set, Help}
use Rattle.clap.specs.declared.parser.matches.ValueSource.TheVariants.{CommandLine}
use Rattle.clap.specs.declared.error.kind.ErrorKind.TheVariants as kind
use Rattle.odata_serve.proofs.PlainRules.{IsOne, TakesOne, IsPlainRule, ArePlain, AllFit, some_kind, both_none, passed, append_fits, at_none, one_value, find_plain}

-- ---- the walk, where a second use of an argument is a fault

module _ (c : List Rule) (plain : ArePlain c c) (again : Bool) (once : again ≡ false) where
  value_keeps : (a : Rule) (v : Text) (rows : List Row) → arg_by_id c a.id ≡ Some a → action_of a ≡ Set
      → action_fault (action_of a) again a (v ∷ []) rows ≡ [] → AllFit c rows → AllFit c (used a (v ∷ []) rows)
  value_keeps a v rows own set e fit =
      let asks : set_fault again a (v ∷ []) rows ≡ [] = subst (λ (x : ArgAction). action_fault x again a (v ∷ []) rows ≡ []) set e in
      let parts = both_none _ _ asks in
      let new : has_row a.id rows ≡ false = unheld (has_row a.id rows)
      (subst (λ (x : Bool). cond (has_row a.id rows && not x) (kind.ArgumentConflict ∷ []) [] ≡ []) once parts.0) in
      let row : Row = record { id = a.id; values = v ∷ []; count = None; source = Some CommandLine; reading = reading_by a } in
      let same : without a.id rows ≡ rows = at_none a.id (λ _. []) [] rows new ∙ append-nil rows in
      let is : used a (v ∷ []) rows ≡ rows ++ row ∷ [] =
      ap (λ (x : ArgAction). used_as x a.id (reading_by a) (v ∷ []) rows) set
      ∙ ap (λ (rs : List Row). with_values a.id (reading_by a) CommandLine (v ∷ []) rs) same
      ∙ at_none a.id (more_values CommandLine (v ∷ [])) (row ∷ []) rows new in
      let one : IsOne a row = record { value = v; values = refl; accepted = passed _ _ (both_none _ _ parts.1).0; reading = refl } in
      subst (AllFit c) (sym is) (append_fits c rows (row ∷ []) fit ((a, own, one), tt))
    where
      unheld : (b : Bool) → cond (b && not false) (kind.ArgumentConflict ∷ []) [] ≡ [] → b ≡ false
      unheld true e = absurd (some_kind e)
      unheld false e = refl

  use_keeps : (a : Rule) (values : List Text) (rows : List Row) → IsPlainRule c a → use_fault again a values rows ≡ [] → AllFit c rows
      → AllFit c (used a values rows)
  use_keeps a values rows k e fit = go k.kind (both_none _ _ e)
    where
      go : TakesOne a ⊎ (action_of a ≡ Help)
          → (range_kinds (unwrap_or_range a.range).start_inclusive (unwrap_or_range a.range).end_inclusive (length values) ≡ [])
          × (action_fault (action_of a) again a (values_or_missing a values) rows ≡ [])
          → AllFit c (used a values rows)
      go (inl one) asks =
          let v = one_value values (subst (λ (r : ValueRange). range_kinds r.start_inclusive r.end_inclusive (length values) ≡ []) one.range asks.0) in
          subst (λ (vs : List Text). action_fault (action_of a) again a (values_or_missing a vs) rows ≡ [] → AllFit c (used a vs rows)) (sym v.1)
          (λ h. value_keeps a v.0 rows k.own one.action h fit) asks.1
      go (inr help) asks =
          let bad : kind.DisplayHelp ∷ [] ≡ [] =
          subst (λ (x : ArgAction). action_fault x again a (values_or_missing a values) rows ≡ []) help asks.1 in
          absurd (some_kind bad)

  pub settle_keeps : (h : Held) → settle_fault c again h ≡ [] → AllFit c h.rows → AllFit c (settled c h).rows
  settle_keeps h e fit = go h.pending e
    where
      one : (p : Text × List Text) (o : Option Rule) → arg_by_id c p.0 ≡ o → option_map_or (λ a. use_fault again a p.1 h.rows) o [] ≡ []
          → AllFit c (used_by_id o p.1 h.rows)
      one p None is e = fit
      one p (Some a) is e = use_keeps a p.1 h.rows (find_plain c c (λ b. bytes_eq b.id p.0) a plain is) e fit

      go : (o : Option (Text × List Text))
          → option_map_or (λ p. option_map_or (λ a. use_fault again a p.1 h.rows) (arg_by_id c p.0) []) o [] ≡ []
          → AllFit c (settled_rows c o h.rows)
      go None e = fit
      go (Some p) e = one p (arg_by_id c p.0) refl e

  react_keeps : (a : Rule) (values : List Text) (h : Held) → IsPlainRule c a → react_fault c again a values h ≡ [] → AllFit c h.rows
      → AllFit c (reacted c a values h).rows
  react_keeps a values h k e fit =
      let parts = both_none _ _ e in
      use_keeps a values (settled c h).rows k parts.1 (settle_keeps h parts.0 fit)

  option_keeps : (a : Rule) (v : Option Text) (h : Held) → IsPlainRule c a → option_fault c again a v h ≡ [] → AllFit c h.rows
      → AllFit c (option_met c a v h).0.rows
  option_keeps a None h k e fit = settle_keeps h e fit
  option_keeps a (Some v) h k e fit = react_keeps a (v ∷ []) h k e fit

  long_keeps : (o : Option Rule) (v : Option Text) (h : Held) → ((a : Rule) → o ≡ Some a → IsPlainRule c a) → long_fault c again o v h ≡ []
      → AllFit c h.rows → AllFit c (long_met c o v h).0.rows
  long_keeps None v h known e fit = fit
  long_keeps (Some a) v h known e fit = go (takes_values a) v e
    where
      go : (takes : Bool) (v : Option Text)
          → cond takes (option_fault c again a v h) (cond (is_some v) (kind.TooManyValues ∷ []) (react_fault c again a [] h)) ≡ []
          → AllFit c (cond takes (option_met c a v h) (flag_met c a v h)).0.rows
      go true v e = option_keeps a v h (known a refl) e fit
      go false None e = react_keeps a [] h (known a refl) e fit
      go false (Some v) e = fit

  short_keeps : (o : Option Rule) (rest : Text) (h : Held) (faults : Held → Kinds) (met : Held → Held × Outcome)
      → ((a : Rule) → o ≡ Some a → IsPlainRule c a)
      → ((g : Held) → faults g ≡ [] → AllFit c g.rows → AllFit c (met g).0.rows)
      → short_fault c again o rest h faults ≡ [] → AllFit c h.rows → AllFit c (short_met c o rest h met).0.rows
  short_keeps None rest h faults met known then e fit = fit
  short_keeps (Some a) rest h faults met known then e fit = go (takes_values a) e
    where
      go : (takes : Bool)
          → cond takes (option_fault c again a (attached_value rest) h) (or_else (react_fault c again a [] h) (faults (reacted c a [] h))) ≡ []
          → AllFit c (cond takes (option_met c a (attached_value rest) h) (met (reacted c a [] h))).0.rows
      go true e = option_keeps a (attached_value rest) h (known a refl) e fit
      go false e =
          let parts = both_none _ _ e in
          then (reacted c a [] h) parts.1 (react_keeps a [] h (known a refl) parts.0 fit)

  flags_keep : (k : ℕ) (flags : Text) (skip : ℕ) (so_far : Outcome) (h : Held) → flags_fault c again k flags skip h ≡ [] → AllFit c h.rows
      → AllFit c (bundle_met c k flags skip so_far h).0.rows
  unfolding flags_fault bundle_met
  flags_keep zero flags skip so_far h e fit = fit
  flags_keep (suc k) flags skip so_far h e fit =
      go (slice_get (chars flags) 0) skip (λ rest skip so_far g f fits. flags_keep k rest skip so_far g f fits) e
    where
      go : (o : Option ℕ) (skip : ℕ)
          → ((rest : Text) (skip : ℕ) (so_far : Outcome) (g : Held) → flags_fault c again k rest skip g ≡ [] → AllFit c g.rows
          → AllFit c (bundle_met c k rest skip so_far g).0.rows)
          → bundle_step_fault c again o flags skip h (flags_fault c again k) ≡ []
          → AllFit c (bundle_step c o flags skip so_far h (bundle_met c k)).0.rows
      go None skip behind e = fit
      go (Some x) (suc skip) behind e = behind (drop (length (encode_utf8 x)) flags) skip so_far h e fit
      go (Some x) zero behind e =
          let rest = drop (length (encode_utf8 x)) flags in
          short_keeps (arg_by_short c x) rest h (flags_fault c again k rest 0) (bundle_met c k rest 0 done)
          (λ a is. find_plain c c (λ b. not (is_some b.index) && has_short b x) a plain is)
          (λ g f fits. behind rest 0 done g f fits) e fit

  plain_same : (waiting : Waiting) (word : Text) (h : Held) → (plain_word c waiting word h).0.rows ≡ h.rows
  plain_same idle word h = refl
  plain_same positional word h = refl
  plain_same (option id) word h = go (arg_by_id c id)
    where
      go : (o : Option Rule) → (option_word o id word h).0.rows ≡ h.rows
      go None = refl
      go (Some a) = refl

  after_same : (waiting : Waiting) (word : Text) (h : Held) (o : Outcome) → (after_flag c waiting word h o).0.rows ≡ h.rows
  after_same waiting word h done = refl
  after_same waiting word h (waits id) = refl
  after_same waiting word h no_flag = plain_same waiting word h
  after_same waiting word h refused = plain_same waiting word h

  after_keeps : (waiting : Waiting) (word : Text) (h : Held) (o : Outcome) → AllFit c h.rows → AllFit c (after_flag c waiting word h o).0.rows
  after_keeps waiting word h o fit = subst (AllFit c) (sym (after_same waiting word h o)) fit

  plain_keeps : (waiting : Waiting) (word : Text) (h : Held) → AllFit c h.rows → AllFit c (plain_word c waiting word h).0.rows
  plain_keeps waiting word h fit = subst (AllFit c) (sym (plain_same waiting word h)) fit

  pub flag_keeps : (waiting : Waiting) (word : Text) (h : Held) → flag_word_fault c again (long_of word) word h ≡ [] → AllFit c h.rows
      → AllFit c (long_or_other c waiting word (long_of word) h).0.rows
  flag_keeps waiting word h e fit = go (long_of word) e
    where
      short : (o : Option Text) → option_map_or (λ flags. bundle_fault c again flags h) o [] ≡ [] → AllFit c (short_or_plain c waiting word o h).0.rows
      short None e = plain_keeps waiting word h fit
      short (Some flags) e = after_keeps waiting word (bundle c flags h).0 (bundle c flags h).1
          (flags_keep (length flags) flags h.skip no_flag (record h { skip = 0 }) e fit)

      go : (o : Option (Text × Option Text)) → flag_word_fault c again o word h ≡ [] → AllFit c (long_or_other c waiting word o h).0.rows
      go None e = short (short_of word) e
      go (Some p) e = after_keeps waiting word (long_met c (arg_by_long c p.0) p.1 h).0 (long_met c (arg_by_long c p.0) p.1 h).1
          (long_keeps (arg_by_long c p.0) p.1 h (λ a is. find_plain c c (λ b. not (is_some b.index) && has_long b p.0) a plain is) e fit)
