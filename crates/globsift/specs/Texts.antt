-- The texts of errors.
use Rattle.std.specs.Prelude.{ℕ, List, ◌++◌, codes}
use Rattle.globset.specs.Errors.{error_text}
use Rattle.globset.specs.ValueErrors.{value_error_text}
use Rattle.globsift.specs.Command.{fault_value, FaultValue, unknown_option, no_glob, set_without_text, set_not_alone, not_json, glob_error, value_error}
use Rattle.globsift.specs.declared.program.ProgramFault.{ProgramFault}
use Rattle.globsift.specs.declared.program.ProgramFault.TheVariants.{Command, Sift}
use Rattle.globsift.specs.declared.sifting.fault.SiftFault.{SiftFault}
use Rattle.globsift.specs.declared.sifting.fault.SiftFault.TheVariants.{Read, Write, OutOfMemory}

-- the text of an error of `sift`
abbrev pub sift_fault_text : SiftFault → List ℕ
sift_fault_text Read = codes "reading failed"
sift_fault_text Write = codes "writing failed"
sift_fault_text OutOfMemory = codes "out of memory"

-- the text of an error of `command`
abbrev pub command_fault_text : FaultValue → List ℕ
command_fault_text (unknown_option argument) = codes "unknown option '" ++ argument ++ codes "'"
command_fault_text no_glob = codes "no glob given"
command_fault_text set_without_text = codes "--set takes a text"
command_fault_text set_not_alone = codes "--set stands alone or beside -n"
command_fault_text not_json = codes "not a JSON text"
command_fault_text (glob_error error) = error_text error
command_fault_text (value_error error) = value_error_text error

-- the text of an error of the program, which comes after `globsift: ` on standard error
abbrev pub fault_text : ProgramFault → List ℕ
fault_text (Command fault) = command_fault_text (fault_value fault)
fault_text (Sift fault) = sift_fault_text fault
