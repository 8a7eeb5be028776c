use Rattle.std.proofs.Common.{◌≡◌, ◌++◌, length}
use Rattle.admission.specs.Verdicts.{Right, Verdict}
use Rattle.script.specs.Views.{desk}
use Rattle.text.specs.Lines.{printed}
use Rattle.text.specs.Playing.{left, told}
use Rattle.text.specs.Spoken.{outside, text}
use Rattle.text.proofs.outside.play.Given as goal

-- What is said with what is left to say is the text.
abbrev pub invariant-loop-item : goal.invariant-loop-item
invariant-loop-item l =
    (verdict : Verdict) → Right verdict
    → text verdict l.script ≡ told l.player ++ printed (outside verdict (desk l.entering.setup) (left l.player))

abbrev pub decreases-loop-item : goal.decreases-loop-item
decreases-loop-item l = length (left l.player)
