-- The numbers of the profile.
use Rattle.std.specs.Prelude.{◌≡◌, ◌^◌}
use Rattle.odata_query.specs.declared.aggregate.TheConstants.{COUNT_SIZE, MOST_ROWS}

pub record QuerySizes : Type 0 where
  pub rows : MOST_ROWS ≡ 2 ^ 30
  pub counts : COUNT_SIZE ≡ 2 ^ 31
