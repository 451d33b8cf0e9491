-- The options of a query on what its path leads to (OData 4.01 Part 2, URL Conventions, section 5).
use Rattle.std.specs.Prelude.{ℕ, Bool, List, [], ◌∷◌, Option, None, Some, find, option_map}
use Rattle.std.specs.Borrow.{Bor}
use Rattle.std.specs.Option.{option_or}
use Rattle.std.specs.Str.{bytes_eq}
use Rattle.odata_url.specs.declared.option_name.OptionName.{OptionName}
use Rattle.odata_url.specs.declared.option_name.OptionName.TheVariants as name
use Rattle.odata_url.specs.OptionName.{option_text}
use Rattle.odata_url.specs.Target.{QueryOption}
use Rattle.odata_parse.specs.declared.format.Format.{Format}
use Rattle.odata_parse.specs.declared.format.Format.TheVariants.{Json}
use Rattle.odata_parse.specs.Format.{format_of}
use Rattle.odata_errors.specs.declared.code.Code.{Code}
use Rattle.odata_errors.specs.declared.code.Code.TheVariants.{OptionNotAllowed}
use Rattle.odata_request.specs.declared.options.Texts.{Texts}
use Rattle.odata_request.specs.Resource as resource
use Rattle.odata_request.specs.Resource.{ResourceOf}

-- why an option does not fit, whatever its value is: the service document takes `$format` alone, and a row by its key `$select` too
abbrev pub option_fault : ResourceOf → OptionName → Option Code
option_fault path name.Format = None
option_fault resource.service option = Some OptionNotAllowed
option_fault (resource.key number text) name.Select = None
option_fault (resource.key number text) option = Some OptionNotAllowed
option_fault (resource.rows number) option = None
option_fault (resource.count number) option = None

-- why the first option does not fit that does not, in the query's order
abbrev pub options_fault : ResourceOf → List QueryOption → Option Code
options_fault path [] = None
options_fault path (option ∷ options) = option_or (option_fault path option.0) (options_fault path options)

-- the option has that name
abbrev pub is_named : OptionName → QueryOption → Bool
is_named name option = bytes_eq (option_text option.0) (option_text name)

-- the value of the option of that name, where it is one of these
abbrev pub option_value : OptionName → List QueryOption → Option (List ℕ)
option_value name options = option_map (λ option. option.1) (find (is_named name) options)

-- the format that a value asks for: JSON where there is none; none where the value is not served
abbrev pub format_in : Option (List ℕ) → Option Format
format_in None = Some Json
format_in (Some text) = format_of text

-- the format that options ask for
abbrev pub asked_format : List QueryOption → Option Format
asked_format options = format_in (option_value name.Format options)

-- the texts of a query on a table: its key, whether its rows are counted by the path, and the values of its options, each where it is there
pub record TextsOf : Type 0 where
  pub key : Option (List ℕ)
  pub counting : Bool
  pub apply : Option (List ℕ)
  pub filter : Option (List ℕ)
  pub count : Option (List ℕ)
  pub order : Option (List ℕ)
  pub skip : Option (List ℕ)
  pub top : Option (List ℕ)
  pub select : Option (List ℕ)

abbrev pub lent_view : Option (Bor (List ℕ)) → Option (List ℕ)
lent_view text = option_map (λ t. t.now) text

abbrev pub asked_view : Texts → TextsOf
asked_view texts = record {
  key = lent_view texts.key;
  counting = texts.counting;
  apply = lent_view texts.apply;
  filter = lent_view texts.filter;
  count = lent_view texts.count;
  order = lent_view texts.order;
  skip = lent_view texts.skip;
  top = lent_view texts.top;
  select = lent_view texts.select;
}

abbrev pub texts_of : Option (List ℕ) → Bool → List QueryOption → TextsOf
texts_of key counting options = record {
  key = key;
  counting = counting;
  apply = option_value name.Apply options;
  filter = option_value name.Filter options;
  count = option_value name.Count options;
  order = option_value name.OrderBy options;
  skip = option_value name.Skip options;
  top = option_value name.Top options;
  select = option_value name.Select options;
}
