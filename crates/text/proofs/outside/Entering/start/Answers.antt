use Rattle.std.proofs.Common.{◌≡◌, IfOk, ap, ◌∙◌, w32, to_z, of_z}
use Rattle.rules.specs.Kinds.{bottom_point}
use Rattle.rules.specs.declared.choice.Choice.{Choice}
use Rattle.tasks.specs.Listed.{listed}
use Rattle.text.specs.Playing.{Tried}
use Rattle.rules.proofs.Chosen.{chosen, light}
use Rattle.text.proofs.outside.Entering.start.Goals as goal

pub returns : goal.returns
returns c =
    let setup = c.args.self.now.setup in
    let fair = c.args.self.now.light in
    let made_choice = c.choice-choice.result in
    let is : made_choice ≡ setup.choice = c.choice-choice.ensures.value in
    let a = c.in-Ok.ensures.answer in
    let b = c.in-Ok-over.ensures.answer in
    record {
      tried = chosen
          (λ tasks point before. IfOk c.test.result (Tried tasks point before c.args.player.now c.test.new.self))
          setup.choice (listed c.table-table.result.now) (listed setup.table) _ _ c.new-bottom.result c.in-Ok.middle
          c.in-Ok-over.rule (ap listed c.table-table.ensures.value)
          (ap (λ (ch : Choice). to_z w32 (of_z w32 ch.execution)) is ∙ light setup.choice.execution fair.0)
          (ap (λ (ch : Choice). to_z w32 (of_z w32 ch.suspension)) is ∙ light setup.choice.suspension fair.1)
          (c.new-bottom.ensures.points ∙ ap (λ (ch : Choice). bottom_point ch.kind (listed c.table-table.result.now)) is) a.1 a.2 b.1 b.2
          c.test.ensures.tried;
    }
