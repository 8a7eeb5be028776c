use Rattle.admission.specs.Views.{tasks_of, points_of, bounds_of, offsets_of}
use Rattle.admission.proofs.Kept.{one_each, warrant}
use Rattle.admission.proofs.accepted.Accepted.as_slice.Goals as goal

pub returns-clause-warrant : goal.returns-clause-warrant
returns-clause-warrant c =
    let s = c.args.self.now in
    warrant (tasks_of s) (points_of s) (bounds_of s) (offsets_of s) (one_each s) s.shown
