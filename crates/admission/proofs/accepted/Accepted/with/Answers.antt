use Rattle.admission.proofs.Filling.{filled}
use Rattle.admission.proofs.Kept.{all_shown}
use Rattle.admission.proofs.accepted.Accepted.with.Goals as goal

pub invariant_of-result : goal.invariant_of-result
invariant_of-result c =
    let f = filled _ _ _ _ _ c.next.new.self c.loop-figures.invariant.filling c.requires.points c.requires.found c.in-None.ensures.steps in
    let shown = all_shown _ _ _ _ c.requires.admits in
    rw (f.its_tasks, f.its_points, f.its_bounds, f.its_offsets) record { fit = c.requires.fit; shown = shown }
