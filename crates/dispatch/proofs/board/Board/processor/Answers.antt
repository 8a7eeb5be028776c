use Rattle.std.proofs.Common.{◌≡◌, true, sym, ap, ◌∙◌, rules}
use Rattle.std.specs.Option.{option_map, option_map_or}
use Rattle.model.specs.declared.job.Job.{Job}
use Rattle.model.specs.declared.job.JobId.{JobId}
use Rattle.dispatch.proofs.Foremost.{best_runs, takes_the_lead, keeps_the_lead}
use Rattle.dispatch.specs.Boards.{state_of, tasks_on}
use Rattle.dispatch.proofs.board.Board.processor.Goals as goal

pub loop-task-preserved-then-is_none_or : goal.loop-task-preserved-then-is_none_or
loop-task-preserved-then-is_none_or g c =
    let job : JobId = record { task = c.in-Some.task; release = c.job.result.release } in
    let said : c.is_none_or.result
    ≡ option_map_or (λ (first : JobId). g.R.OrderRule.before c.args.rule.now job first) c.loop-task.best true = search rules in
    let (bit, cleared) = c.in-Some.ensures.steps in
    takes_the_lead c.loop-task.task-iterator.rest c.next.new.self.rest job bit.there cleared (g.R.OrderRule.laws c.args.rule.now)
    (ap (λ (j : Job). record { task = c.in-Some.task; release = j.release }) c.job.ensures.value) c.loop-task.best
    c.loop-task.invariant (sym said ∙ c.if-is_none_or.true)

pub loop-task-preserved : goal.loop-task-preserved
loop-task-preserved g c =
    let job : JobId = record { task = c.in-Some.task; release = c.job.result.release } in
    let said : c.is_none_or.result
    ≡ option_map_or (λ (first : JobId). g.R.OrderRule.before c.args.rule.now job first) c.loop-task.best true = search rules in
    let (bit, cleared) = c.in-Some.ensures.steps in
    keeps_the_lead c.loop-task.task-iterator.rest c.next.new.self.rest job bit.there cleared (g.R.OrderRule.laws c.args.rule.now)
    (ap (λ (j : Job). record { task = c.in-Some.task; release = j.release }) c.job.ensures.value) c.loop-task.best
    c.loop-task.invariant (sym said ∙ c.if-is_none_or.false)

pub returns-clause-value : goal.returns-clause-value
returns-clause-value g c =
    let b = c.args.self.now in
    let its : c.map.result ≡ option_map (λ (a : JobId). a.task) c.loop-task.best = search rules in
    its ∙ best_runs (g.R.OrderRule.laws c.args.rule.now) (tasks_on b) (state_of b) b.bounded b.ready_tasks c.loop-task.invariant
    c.in-None.ensures.steps.0
