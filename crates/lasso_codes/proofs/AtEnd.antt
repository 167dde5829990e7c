-- The end of a reader, as std states it by cases and as an equation of the bytes that are left.
use Rattle.std.proofs.Common.{ℕ, ◌≡◌, List, [], Option, Some, None, refl, sym, subst}
use Rattle.std.specs.Option.{ForSome}
use Rattle.std.specs.Io.KnownBytes.{IsAtEnd}

pub end_by_cases : (left : Option (List ℕ)) → ForSome left (λ bytes. bytes ≡ []) → IsAtEnd left
end_by_cases None none = tt
end_by_cases (Some bytes) none = none bytes refl

pub end_by_equation : (left : Option (List ℕ)) → IsAtEnd left → ForSome left (λ bytes. bytes ≡ [])
end_by_equation left end = λ bytes is. subst IsAtEnd is end
