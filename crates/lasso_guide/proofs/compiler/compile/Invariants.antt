use Rattle.std.proofs.Common.{List, [], ◌++◌, drop}
use Rattle.lasso_guide.specs.declared.compiler.Instruction.{Instruction}
use Rattle.lasso_guide.specs.Compiling.{IsCodeOf}
use Rattle.lasso_guide.specs.Scopes.{names_of}
use Rattle.lasso_guide.proofs.Compiled.{key_number}
use Rattle.lasso_guide.proofs.compiler.compile.Given as goal

-- what is code of the tokens from the index on, in these scopes, follows the code so far
abbrev pub invariant-loop-token : goal.invariant-loop-token
invariant-loop-token l =
    (rest : List Instruction) → IsCodeOf (names_of key_number l.scopes.names.texts l.scopes.variables.items) l.scopes.opened.items (drop l.token-index l.tokens) rest → IsCodeOf [] [] l.tokens (l.code.items ++ rest)
