-- The form of numbers that are read as they are.
use Rattle.std.specs.Prelude.{◌==◌, ◌&&◌, Bool, true, false, Option, None}
use Rattle.value_forms.specs.declared.form.Form.{Form}
use Rattle.value_forms.specs.declared.form.Form.TheVariants.{Number}
use Rattle.value_forms.specs.declared.form.Scale.{Scale}
use Rattle.value_forms.specs.declared.form.Scale.TheVariants.{Plain}
use Rattle.value_forms.specs.declared.unit.Unit.{Unit}

abbrev pub is_unscaled : Scale → Option Unit → Bool
is_unscaled Plain None = true
is_unscaled _ _ = false

-- digits and a decimal point, with nothing between thousands
abbrev pub is_plain_form : Form → Bool
is_plain_form (Number form) = is_unscaled form.scale form.unit && form.marks.point == 46 && form.marks.group == 46
is_plain_form _ = false
