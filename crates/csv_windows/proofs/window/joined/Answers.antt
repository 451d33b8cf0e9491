use Rattle.std.proofs.Common.{◌≡◌, ◌++◌, refl}
use Rattle.csv_windows.proofs.window.joined.Goals as goal

pub returns-in-Ok : goal.returns-in-Ok
returns-in-Ok c = λ bytes piece f. let s = c.in-Ok.ensures.size bytes piece f in (refl, s.1, s.0)

pub returns-in-Err : goal.returns-in-Err
returns-in-Err c = λ bytes piece f. (refl, c.in-Err.ensures.fault bytes piece f, tt)
