-- How the program ends: its exit status, and what it prints of the reason.
use Rattle.std.specs.Prelude.{ℕ, ◌≡◌, List, [], ◌++◌, Bool, true, false, codes, Option, Some, None, Result, Ok, Err}
use Rattle.lasso_parts.specs.Texts.{Text}
use Rattle.lasso_columns.specs.Rows.{word_of}
use Rattle.lasso_codes.specs.Arguments.{argument_text, name_of}
use Rattle.lasso_codes.specs.Causes.{cause_text}
use Rattle.lasso_codes.specs.Errors.{status_of, run_error_text}
use Rattle.lasso_codes.specs.declared.arguments.Command.{Command}
use Rattle.lasso_codes.specs.declared.arguments.Request.{Request}
use Rattle.lasso_codes.specs.declared.arguments.Verb.{Verb}
use Rattle.std.specs.declared.io.Error.{Error}
use Rattle.lasso_codes.specs.declared.ending.Ending.{Ending}
use Rattle.lasso_codes.specs.declared.ending.Ending.TheVariants.{NoMemory, Refused, Ran}
use Rattle.lasso_codes.specs.declared.error.RunError.{RunError}
use Rattle.lasso_codes.specs.declared.error.RunError.TheVariants.{ReaderGone}

-- the exit status after a run that ended so
abbrev pub ended_status : Result (Unit {0}) RunError → ℕ
ended_status (Ok _) = 0
ended_status (Err error) = status_of error

-- the exit status
abbrev pub ending_status : Ending → ℕ
ending_status NoMemory = 1
ending_status (Refused error hint) = 3
ending_status (Ran ran) = ended_status ran.ended

-- whether a reason is printed after a run that ended so
abbrev pub is_ended_told : Result (Unit {0}) RunError → Bool
is_ended_told (Ok _) = false
is_ended_told (Err ReaderGone) = false
is_ended_told (Err error) = true

-- whether a reason is printed
abbrev pub is_told : Ending → Bool
is_told NoMemory = true
is_told (Refused error hint) = true
is_told (Ran ran) = is_ended_told ran.ended

-- the reason, or that there is none. `cause` is the error of the call that failed
abbrev pub ended_text : Result (Unit {0}) RunError → Option Error → List ℕ
ended_text (Ok _) cause = codes "done"
ended_text (Err error) cause = run_error_text error ++ cause_text cause

-- the verb that may have been meant
abbrev pub hint_text : Option Verb → List ℕ
hint_text None = []
hint_text (Some verb) = codes "; did you mean " ++ (name_of verb ++ codes "?")

-- what is printed, if anything is
abbrev pub ending_text : Ending → List ℕ
ending_text NoMemory = codes "out of memory"
ending_text (Refused error hint) = argument_text error ++ hint_text hint
ending_text (Ran ran) = ended_text ran.ended ran.cause

-- the arguments are refused for this reason
abbrev pub IsRefusal : List ℕ → Ending → Type 0
IsRefusal text NoMemory = ⊥
IsRefusal text (Refused error hint) = argument_text error ≡ text
IsRefusal text (Ran ran) = ⊥

-- what a request asks for: its command, and the word of a null
abbrev pub asked_by : Request → Command × Option Text
asked_by request = (request.command, word_of request.null)

-- a request was run that asks for this
abbrev pub IsRunOf : Command × Option Text → Ending → Type 0
IsRunOf asked NoMemory = ⊥
IsRunOf asked (Refused error hint) = ⊥
IsRunOf asked (Ran ran) = asked_by ran.request ≡ asked
