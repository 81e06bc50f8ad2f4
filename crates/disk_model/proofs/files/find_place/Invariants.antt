use Rattle.disk_model.specs.Places.{NoneBefore}
use Rattle.disk_model.proofs.files.find_place.Given as goal

abbrev pub invariant-loop-i : goal.invariant-loop-i
invariant-loop-i l = NoneBefore l.name l.i l.files
