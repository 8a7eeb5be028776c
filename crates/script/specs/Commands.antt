-- The commands of a script: how its bytes are read.
use Rattle.std.specs.Prelude.{ℕ, zero, suc, cond, List, [], ◌∷◌, length, take, Some, None, Ok, Err, Option, Result, ◌==◌, nat_lt, slice_index}
use Rattle.model.specs.Bytes.{figures_at}
use Rattle.model.specs.declared.call.Call.TheVariants.{Release, Wait, Wake, Finish, Tick}
use Rattle.model.specs.declared.refusal.Refusal.{Refusal}
use Rattle.model.specs.declared.refusal.Refusal.TheVariants.{UnknownCommand, OperandsCutOff}
use Rattle.rules.specs.Choices.{Light, choose}
use Rattle.rules.specs.declared.choice.Choice.{Choice}
use Rattle.script.specs.declared.command.Command.{Command}
use Rattle.script.specs.declared.command.Command.TheVariants.{Task, Rule, Start, Call, Close}

-- What is read where a command is expected: the command, or why it is none.
abbrev pub Item : Type 0
Item = Result Command Refusal

-- A form of command: how many bytes of operands it has, and what they make of it.
pub record Form : Type 0 where
  pub operands : ℕ
  pub meaning : List ℕ → Item

-- TASK: the four figures, C, S, D, T.
abbrev pub task : List ℕ → Item
task bytes = Ok (Task (figures_at bytes 0))

-- RULE with a choice, or the refusal of its bytes.
abbrev pub ruled : Result Choice Refusal → Item
ruled (Ok choice) = Ok (Rule choice)
ruled (Err why) = Err why

-- RULE: kind, C-weight and S-weight.
abbrev pub rule : List ℕ → Item
rule bytes = ruled (choose (slice_index bytes 0) (slice_index bytes 1) (slice_index bytes 2))

-- A form with so many operands.
abbrev pub form : ℕ → (List ℕ → Item) → Form
form operands meaning = record { operands = operands; meaning = meaning }

-- Every form of command, by its byte.
abbrev pub forms : List (ℕ × Form)
forms =
    (0x01, form 8 task)
    ∷ (0x02, form 3 rule)
    ∷ (0x03, form 0 (λ _. Ok Start))
    ∷ (0x10, form 1 (λ bytes. Ok (Call (Release (slice_index bytes 0)))))
    ∷ (0x11, form 0 (λ _. Ok (Call Wait)))
    ∷ (0x12, form 1 (λ bytes. Ok (Call (Wake (slice_index bytes 0)))))
    ∷ (0x13, form 0 (λ _. Ok (Call Finish)))
    ∷ (0x14, form 0 (λ _. Ok (Call Tick)))
    ∷ (0x1F, form 0 (λ _. Ok Close))
    ∷ []

-- The form with this byte, if there is one.
abbrev pub listed : List (ℕ × Form) → ℕ → Option Form
listed [] byte = None
listed (f ∷ fs) byte = cond (byte == f.0) (Some f.1) (listed fs byte)

-- The form of a command byte, if it is one.
abbrev pub form_of : ℕ → Option Form
form_of byte = listed forms byte

-- What a command byte with this form makes of its operands.
abbrev pub meant : Option Form → List ℕ → Item
meant None bytes = Err UnknownCommand
meant (Some f) bytes = f.meaning bytes

-- What is read where a command byte with this form is followed by these bytes: an unknown command and operands that are cut
-- off end the script; else there is an item, and then what follows the operands.
abbrev pub read : Option Form → List ℕ → (ℕ → List Item) → List Item
read None rest others = Err UnknownCommand ∷ []
read (Some f) rest others =
    cond (nat_lt (length rest) f.operands) (Err OperandsCutOff ∷ []) (f.meaning (take f.operands rest) ∷ others f.operands)

-- The items of a script after so many bytes, which are operands of the command before.
abbrev pub items_after : ℕ → List ℕ → List Item
items_after passed [] = []
items_after (suc passed) (byte ∷ rest) = items_after passed rest
items_after zero (byte ∷ rest) = read (form_of byte) rest (λ operands. items_after operands rest)

-- The items of a script.
abbrev pub items : List ℕ → List Item
items script = items_after 0 script

-- The weights of a choice of rule are in their range.
abbrev pub Fair : Item → Type 0
Fair (Ok (Task f)) = Unit {0}
Fair (Ok (Rule choice)) = Light choice
Fair (Ok Start) = Unit {0}
Fair (Ok (Call call)) = Unit {0}
Fair (Ok Close) = Unit {0}
Fair (Err why) = Unit {0}
