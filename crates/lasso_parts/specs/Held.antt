-- What an interner holds: its texts in the order of their keys, and its account.
use Rattle.std.specs.Prelude.{List}
use Rattle.lasso_parts.specs.Texts.{Text}
use Rattle.lasso_parts.specs.Account.{Account}

-- the texts and the account
pub record Held : Type 0 where
  pub texts : List Text
  pub account : Account
