-- The program's effect, by its arguments, a reader and a writer. The two values of each are from before and after.
use Rattle.std.specs.Prelude.{◌≡◌, ℕ, List, Bool, Option, Ok}
use Rattle.globsift.specs.Command.{CommandValue, IsFaultOf, command_of}
use Rattle.globsift.specs.Output.{SiftSucceeds, SiftFails}
use Rattle.globsift.specs.declared.program.ProgramFault.{ProgramFault}
use Rattle.globsift.specs.declared.program.ProgramFault.TheVariants.{Command, Sift}

-- On success: the arguments are a command, the lines that its set matches were written, and `any` says whether there was any.
abbrev pub Succeeds : List (List ℕ) → Option (List ℕ) → Option (List ℕ) → Option (List ℕ) → Option (List ℕ) → Bool → Type 0
Succeeds arguments reader reader' writer writer' any = (command : CommandValue) × (command_of arguments ≡ Ok command)
    × SiftSucceeds command.globs command.numbered reader reader' writer writer' any

-- On an error: if the arguments are rejected, or memory ran out over them, nothing was read or written. If sifting stopped, the
-- arguments are a command, and `SiftFails` holds.
abbrev pub Fails : List (List ℕ) → Option (List ℕ) → Option (List ℕ) → Option (List ℕ) → Option (List ℕ) → ProgramFault → Type 0
Fails arguments reader reader' writer writer' (Command fault) = IsFaultOf (command_of arguments) fault × (reader' ≡ reader) × (writer' ≡ writer)
Fails arguments reader reader' writer writer' (Sift fault) = (command : CommandValue) × (command_of arguments ≡ Ok command)
    × SiftFails command.globs command.numbered reader reader' writer writer' fault
