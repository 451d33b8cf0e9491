use Rattle.std.proofs.Common.{refl}
use Rattle.std.specs.Str.{chars, is_utf8}
use Rattle.odata_url.specs.Escapes.{decoded_text}
use Rattle.odata_url.specs.OptionName.{is_unserved, option_of_name, plain_name, served_option}
use Rattle.odata_url.specs.Target.{option_of, options_of, origin_form, segments_of, target_of, with_option, with_part, with_value}
use Rattle.odata_url.proofs.laws.worked_targets.Goals as goal

pub returns : goal.returns
unfolding chars is_utf8 lib.Utf8.encode decoded_text is_unserved option_of_name plain_name served_option option_of options_of origin_form segments_of target_of with_option with_part with_value
returns c = record {
  served = refl;
  not_served = refl;
  unknown = refl;
  custom = refl;
  forms = refl;
  authority = refl;
  authority_and_query = refl;
  no_form = refl;
  decoded = refl;
  left_out = refl;
  no_value = refl;
  twice = refl;
  escapes = refl;
  utf8 = refl;
  first_fault = refl;
}
