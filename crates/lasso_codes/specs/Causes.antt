-- Why a read or a write failed, in words.
use Rattle.std.specs.Prelude.{ℕ, ℤ, unsigned_abs, ◌==◌, List, [], ◌∷◌, ◌++◌, codes, decimal, Option, Some, None, if◌then◌else◌, Result, Ok, Err}
use Rattle.std.specs.IoError.{error_kind, raw_os_error}
use Rattle.std.specs.declared.io.Error.{Error}
use Rattle.std.specs.declared.io.ErrorKind.{ErrorKind}
use Rattle.std.specs.declared.io.ErrorKind.TheVariants.{PermissionDenied, ConnectionRefused, ConnectionReset, HostUnreachable, NetworkUnreachable, ConnectionAborted, NotConnected, NetworkDown, BrokenPipe, WouldBlock, IsADirectory, ReadOnlyFilesystem, StaleNetworkFileHandle, InvalidInput, TimedOut, WriteZero, StorageFull, NotSeekable, QuotaExceeded, FileTooLarge, ResourceBusy, Deadlock, Interrupted, Unsupported, OutOfMemory}
use Rattle.lasso_codes.specs.Views.{InputView, OutputView}
use Rattle.lasso_codes.specs.declared.error.RunError.{RunError}
use Rattle.lasso_codes.specs.declared.error.RunError.TheVariants.{Line, TooManyLines, ReadFailed, WriteFailed, ReaderGone, Column}

-- the kind in the words of Rust's std, with a capital; no words for a kind that no read or write has
unfoldable pub kind_text : ErrorKind → List ℕ
kind_text PermissionDenied = codes "Permission denied"
kind_text ConnectionRefused = codes "Connection refused"
kind_text ConnectionReset = codes "Connection reset"
kind_text HostUnreachable = codes "Host unreachable"
kind_text NetworkUnreachable = codes "Network unreachable"
kind_text ConnectionAborted = codes "Connection aborted"
kind_text NotConnected = codes "Not connected"
kind_text NetworkDown = codes "Network down"
kind_text BrokenPipe = codes "Broken pipe"
kind_text WouldBlock = codes "Operation would block"
kind_text IsADirectory = codes "Is a directory"
kind_text ReadOnlyFilesystem = codes "Read-only filesystem"
kind_text StaleNetworkFileHandle = codes "Stale network file handle"
kind_text InvalidInput = codes "Invalid input"
kind_text TimedOut = codes "Timed out"
kind_text WriteZero = codes "Write zero"
kind_text StorageFull = codes "No storage space"
kind_text NotSeekable = codes "Seek on unseekable file"
kind_text QuotaExceeded = codes "Quota exceeded"
kind_text FileTooLarge = codes "File too large"
kind_text ResourceBusy = codes "Resource busy"
kind_text Deadlock = codes "Deadlock"
kind_text Interrupted = codes "Operation interrupted"
kind_text Unsupported = codes "Unsupported"
kind_text OutOfMemory = codes "Out of memory"
kind_text kind = []

-- an error of the system without a kind: number 5 is that of a failed device, and number 9 that of a closed stream
abbrev pub code_text : ℕ → List ℕ
code_text code =
    if code == 5 then codes ": Input/output error"
    else (if code == 9 then codes ": Bad file descriptor" else codes ": os error " ++ decimal code)

abbrev pub unknown_text : Option ℤ → List ℕ
unknown_text None = codes ": unknown error"
unknown_text (Some code) = code_text (unsigned_abs code)

-- the kind after a colon; without a kind, the number of the error
abbrev pub told_text : List ℕ → Option ℤ → List ℕ
told_text [] code = unknown_text code
told_text (b ∷ kind) code = codes ": " ++ (b ∷ kind)

-- the error after a colon, or nothing
abbrev pub cause_text : Option Error → List ℕ
cause_text None = []
cause_text (Some error) = told_text (kind_text (error_kind error)) (raw_os_error error)

-- the error of the call at which the run ended: the last failed one of the reader or of the writer
abbrev pub cause_of : Result (Unit {0}) RunError → InputView → OutputView → Option Error
cause_of (Ok _) input output = None
cause_of (Err (Line error)) input output = None
cause_of (Err TooManyLines) input output = None
cause_of (Err ReadFailed) input output = input.cause
cause_of (Err WriteFailed) input output = output.cause
cause_of (Err ReaderGone) input output = None
cause_of (Err (Column column error)) input output = None
