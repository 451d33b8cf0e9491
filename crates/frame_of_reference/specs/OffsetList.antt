-- The offsets of the rows of a block.
use Rattle.std.specs.Prelude.{ℕ, List}
use Rattle.frame_of_reference.specs.declared.offsets.Offsets.{Offsets}
use Rattle.frame_of_reference.specs.declared.offsets.Offsets.TheVariants.{Ones, Twos, Fours, Eights}

-- the offsets, whatever their width
abbrev pub offset_list : Offsets → List ℕ
offset_list (Ones v) = v.items
offset_list (Twos v) = v.items
offset_list (Fours v) = v.items
offset_list (Eights v) = v.items
