-- Steps of an account worked by hand, as equations that hold by computation.
use Rattle.std.specs.Prelude.{◌≡◌, ℕ, ◌^◌, ◌-◌, List, [], ◌∷◌, Option, Some, None}
use Rattle.lasso_parts.specs.Account.{Account, fresh, store, clear, with_limit}

-- what is done to an account
pub data AccountStep : Type 0 where
  -- a text of this many bytes is stored
  bytes : ℕ → AccountStep
  -- the list is emptied
  empty : AccountStep
  -- the limit becomes this one
  limit : ℕ → AccountStep

-- the account after one step; `first` is the first bucket's size
abbrev pub stepped : ℕ → Account → AccountStep → Option Account
stepped first a (bytes n) = store first a n
stepped first a empty = Some (clear first a)
stepped first a (limit m) = Some (with_limit a m)

-- the account after the steps, or none from the first refused one on
abbrev pub account_after : ℕ → Option Account → List AccountStep → Option Account
account_after first None steps = None
account_after first (Some a) [] = Some a
account_after first (Some a) (step ∷ steps) = account_after first (stepped first a step) steps

-- room, bytes of the spares, doubling size, usage
abbrev pub figures : Option Account → Option (ℕ × ℕ × ℕ × ℕ)
figures None = None
figures (Some a) = Some (a.room, a.spare, a.doubling, a.usage)

-- from a new account with this first bucket's size and this limit
abbrev pub Gives : ℕ → ℕ → List AccountStep → Option (ℕ × ℕ × ℕ × ℕ) → Type 0
Gives first permitted steps wanted = figures (account_after first (Some (fresh first permitted)) steps) ≡ wanted

-- the greatest limit
abbrev pub no_limit : ℕ
no_limit = 2 ^ 64 - 1

-- a remnant bucket, which a clear gives back, and the first bucket filled again
pub record ServesRemnant : Type 0 where
  pub made : Gives 10 15 [] (Some (10, 0, 10, 10))
  pub full : Gives 10 15 (bytes 10 ∷ []) (Some (0, 0, 10, 10))
  pub remnant : Gives 10 15 (bytes 10 ∷ bytes 3 ∷ []) (Some (2, 0, 10, 15))
  pub refused : Gives 10 15 (bytes 10 ∷ bytes 3 ∷ bytes 2 ∷ bytes 1 ∷ []) None
  pub emptied : Gives 10 15 (bytes 10 ∷ bytes 3 ∷ empty ∷ []) (Some (10, 0, 10, 10))
  pub refilled : Gives 10 15 (bytes 10 ∷ bytes 3 ∷ empty ∷ bytes 5 ∷ []) (Some (5, 0, 10, 10))
  pub again : Gives 10 15 (bytes 10 ∷ bytes 3 ∷ empty ∷ bytes 5 ∷ bytes 1 ∷ []) (Some (4, 0, 10, 10))

-- a bucket of exact size, which is not filled further, and then a doubled one
pub record ServesExact : Type 0 where
  pub made : Gives 4 no_limit [] (Some (4, 0, 4, 4))
  pub exact : Gives 4 no_limit (bytes 9 ∷ []) (Some (4, 0, 4, 13))
  pub current : Gives 4 no_limit (bytes 9 ∷ bytes 4 ∷ []) (Some (0, 0, 4, 13))
  pub doubled : Gives 4 no_limit (bytes 9 ∷ bytes 4 ∷ bytes 1 ∷ []) (Some (7, 0, 8, 21))

-- a text of twice the doubling size goes into a doubled bucket
pub record ServesDoubled : Type 0 where
  pub current : Gives 4 no_limit (bytes 3 ∷ []) (Some (1, 0, 4, 4))
  pub doubled : Gives 4 no_limit (bytes 3 ∷ bytes 8 ∷ []) (Some (0, 0, 8, 12))
  pub again : Gives 4 no_limit (bytes 3 ∷ bytes 8 ∷ bytes 1 ∷ []) (Some (15, 0, 16, 28))

-- a limit that is raised later
pub record ServesRaisedLimit : Type 0 where
  pub full : Gives 10 10 (bytes 10 ∷ []) (Some (0, 0, 10, 10))
  pub raised : Gives 10 10 (bytes 10 ∷ limit 20 ∷ bytes 10 ∷ []) (Some (0, 0, 10, 20))
  pub refused : Gives 10 10 (bytes 10 ∷ limit 20 ∷ bytes 10 ∷ bytes 1 ∷ []) None

-- a clear gives back a bucket of exact size and keeps a doubled one, which is filled again
pub record ServesKept : Type 0 where
  pub doubled : Gives 4 no_limit (bytes 4 ∷ bytes 6 ∷ []) (Some (2, 0, 8, 12))
  pub exact : Gives 4 no_limit (bytes 4 ∷ bytes 6 ∷ bytes 20 ∷ []) (Some (2, 0, 8, 32))
  pub emptied : Gives 4 no_limit (bytes 4 ∷ bytes 6 ∷ bytes 20 ∷ empty ∷ []) (Some (4, 8, 8, 12))
  pub refilled : Gives 4 no_limit (bytes 4 ∷ bytes 6 ∷ bytes 20 ∷ empty ∷ bytes 7 ∷ []) (Some (1, 0, 8, 12))
  pub grown : Gives 4 no_limit (bytes 4 ∷ bytes 6 ∷ bytes 20 ∷ empty ∷ bytes 7 ∷ bytes 4 ∷ []) (Some (12, 0, 16, 28))

-- the smallest spare that has the bytes is taken, and each is filled once between two clears
pub record ServesSpares : Type 0 where
  pub filled : Gives 4 no_limit (bytes 4 ∷ bytes 4 ∷ bytes 9 ∷ []) (Some (7, 0, 16, 28))
  pub emptied : Gives 4 no_limit (bytes 4 ∷ bytes 4 ∷ bytes 9 ∷ empty ∷ []) (Some (4, 24, 16, 28))
  pub smallest : Gives 4 no_limit (bytes 4 ∷ bytes 4 ∷ bytes 9 ∷ empty ∷ bytes 5 ∷ []) (Some (3, 16, 16, 28))
  pub greatest : Gives 4 no_limit (bytes 4 ∷ bytes 4 ∷ bytes 9 ∷ empty ∷ bytes 5 ∷ bytes 16 ∷ []) (Some (0, 0, 16, 28))
  pub grown : Gives 4 no_limit (bytes 4 ∷ bytes 4 ∷ bytes 9 ∷ empty ∷ bytes 5 ∷ bytes 16 ∷ bytes 1 ∷ []) (Some (31, 0, 32, 60))
  pub again : Gives 4 no_limit (bytes 4 ∷ bytes 4 ∷ bytes 9 ∷ empty ∷ bytes 5 ∷ bytes 16 ∷ bytes 1 ∷ empty ∷ []) (Some (4, 56, 32, 60))
  pub passed : Gives 4 no_limit (bytes 4 ∷ bytes 4 ∷ bytes 9 ∷ empty ∷ bytes 5 ∷ bytes 16 ∷ bytes 1 ∷ empty ∷ bytes 9 ∷ []) (Some (7, 40, 32, 60))

-- a spare is filled at the limit, and a text that no spare has room for is refused
pub record ServesSparesAtLimit : Type 0 where
  pub doubled : Gives 4 12 (bytes 4 ∷ bytes 6 ∷ []) (Some (2, 0, 8, 12))
  pub refused : Gives 4 12 (bytes 4 ∷ bytes 6 ∷ bytes 3 ∷ []) None
  pub emptied : Gives 4 12 (bytes 4 ∷ bytes 6 ∷ empty ∷ []) (Some (4, 8, 8, 12))
  pub first : Gives 4 12 (bytes 4 ∷ bytes 6 ∷ empty ∷ bytes 3 ∷ []) (Some (1, 8, 8, 12))
  pub spare : Gives 4 12 (bytes 4 ∷ bytes 6 ∷ empty ∷ bytes 3 ∷ bytes 2 ∷ []) (Some (6, 0, 8, 12))
  pub full : Gives 4 12 (bytes 4 ∷ bytes 6 ∷ empty ∷ bytes 3 ∷ bytes 2 ∷ bytes 7 ∷ []) None

-- a remnant bucket that is given back is made again
pub record ServesRemnantAgain : Type 0 where
  pub remnant : Gives 4 7 (bytes 4 ∷ bytes 2 ∷ []) (Some (1, 0, 4, 7))
  pub emptied : Gives 4 7 (bytes 4 ∷ bytes 2 ∷ empty ∷ []) (Some (4, 0, 4, 4))
  pub refilled : Gives 4 7 (bytes 4 ∷ bytes 2 ∷ empty ∷ bytes 4 ∷ []) (Some (0, 0, 4, 4))
  pub again : Gives 4 7 (bytes 4 ∷ bytes 2 ∷ empty ∷ bytes 4 ∷ bytes 3 ∷ []) (Some (0, 0, 4, 7))

-- all of these hold: the contract of `laws::store_serves_as_worked`
abbrev pub ServesAsWorked : Type 0
ServesAsWorked = ServesRemnant × ServesExact × ServesDoubled × ServesRaisedLimit × ServesKept × ServesSpares × ServesSparesAtLimit × ServesRemnantAgain
