-- What entering a table answers.
use Rattle.std.specs.Prelude.{◌≡◌, List, Ok, Err, Result, MatchResult}
use Rattle.model.specs.Checks.{question}
use Rattle.model.specs.declared.figures.Figures.{Figures}
use Rattle.model.specs.declared.refusal.Refusal.{Refusal}
use Rattle.tasks.specs.Listed.{listed}
use Rattle.tasks.specs.declared.table.Table.{Table}
use Rattle.host.specs.Checked.{table_checks}

-- A table with these tasks if no check refuses them, else the first refusal.
abbrev pub Entered : List Figures → Result Table Refusal → Type 0
Entered tasks r =
    MatchResult r (λ table. (question (table_checks tasks) tasks ≡ Ok tasks) × (listed table ≡ tasks))
    (λ refusal. question (table_checks tasks) tasks ≡ Err refusal)
