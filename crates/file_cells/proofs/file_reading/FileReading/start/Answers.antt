use Rattle.std.proofs.Common.{[], refl, arith}
use Rattle.file_cells.proofs.file_reading.FileReading.start.Goals as goal

pub returns : goal.returns
returns c columns = record {
  front = [];
  is = refl;
  read = c.start.ensures columns;
  within = omega arith;
  short = c.requires;
  some = omega arith;
  size = omega arith;
}
