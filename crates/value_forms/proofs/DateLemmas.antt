-- The first of the months that are left, and the parts of a date.
use Rattle.std.proofs.Common.{◌≡◌, ◌∙◌, ℕ, suc, ◌+◌, ◌-◌, ◌<◌, ◌==◌, ◌&&◌, true, false, List, Option, Some, None, if◌then◌else◌, ap, sym, arith}
use Rattle.std.specs.List.{list_any}
use Rattle.value_forms.specs.declared.date.DayForm.{DayForm}
use Rattle.value_forms.specs.Dates.{form_day, day_of_parts, first_month, before_separator, has_parts, is_month, after_separator}

pub next_month : (number : ℕ) (text : List ℕ) (found : Option ℕ) → number < 13 → found ≡ first_month (13 - number) number text → is_month number text ≡ false
    → found ≡ first_month (13 - (number + 1)) (number + 1) text
next_month number text found below is other =
    let left : 13 - number ≡ suc (12 - number) = omega arith in
    let after : 12 - number ≡ 13 - (number + 1) = omega arith in
    is ∙ (ap (λ (count : ℕ). first_month count number text) left
    ∙ (ap (λ b. if b then Some number else first_month (12 - number) (number + 1) text) other ∙ ap (λ (count : ℕ). first_month count (number + 1) text) after))

pub day_of_text : (form : DayForm) (text first rest second third : List ℕ) → first ≡ before_separator form.separator text → rest ≡ after_separator form.separator text
    → second ≡ before_separator form.separator rest → third ≡ after_separator form.separator rest → list_any (λ byte. byte == form.separator) text ≡ true
    → list_any (λ byte. byte == form.separator) rest ≡ true → day_of_parts form first second third ≡ form_day form text
unfolding form_day
day_of_text form text first rest second third a b d e has has_more =
    let there : has_parts form.separator text ≡ true =
    ap (λ has. has && list_any (λ byte. byte == form.separator) (after_separator form.separator text)) has
    ∙ (ap (λ (left : List ℕ). list_any (λ byte. byte == form.separator) left) (sym b) ∙ has_more) in
    let middle : second ≡ before_separator form.separator (after_separator form.separator text) = d ∙ ap (before_separator form.separator) b in
    let last : third ≡ after_separator form.separator (after_separator form.separator text) = e ∙ ap (after_separator form.separator) b in
    let parts : day_of_parts form first second third
    ≡ day_of_parts form (before_separator form.separator text) (before_separator form.separator (after_separator form.separator text)) (after_separator form.separator (after_separator form.separator text)) =
    ap (λ (one : List ℕ). day_of_parts form one second third) a
    ∙ (ap (λ (one : List ℕ). day_of_parts form (before_separator form.separator text) one third) middle
    ∙ ap (day_of_parts form (before_separator form.separator text) (before_separator form.separator (after_separator form.separator text))) last) in
    parts ∙ sym (ap (λ b. if b then day_of_parts form (before_separator form.separator text) (before_separator form.separator (after_separator form.separator text)) (after_separator form.separator (after_separator form.separator text)) else None) there)

pub no_first_part : (form : DayForm) (text : List ℕ) → list_any (λ byte. byte == form.separator) text ≡ false → None ≡ form_day form text
unfolding form_day
no_first_part form text other =
    sym (ap (λ has. if has && list_any (λ byte. byte == form.separator) (after_separator form.separator text)
    then day_of_parts form (before_separator form.separator text) (before_separator form.separator (after_separator form.separator text)) (after_separator form.separator (after_separator form.separator text)) else None) other)

pub no_second_part : (form : DayForm) (text rest : List ℕ) → rest ≡ after_separator form.separator text → list_any (λ byte. byte == form.separator) text ≡ true
    → list_any (λ byte. byte == form.separator) rest ≡ false → None ≡ form_day form text
unfolding form_day
no_second_part form text rest b has other =
    let there : has_parts form.separator text ≡ false =
    ap (λ has. has && list_any (λ byte. byte == form.separator) (after_separator form.separator text)) has
    ∙ (ap (λ (left : List ℕ). list_any (λ byte. byte == form.separator) left) (sym b) ∙ other) in
    sym (ap (λ b. if b then day_of_parts form (before_separator form.separator text) (before_separator form.separator (after_separator form.separator text)) (after_separator form.separator (after_separator form.separator text)) else None) there)
