-- The call that a message of the bus answers.
use Rattle.std.specs.Prelude.{ℕ, Option}

-- the number of its caller, which has none before its Hello is answered, and its serial
pub record ReplyTo : Type 0 where
  pub caller : Option ℕ
  pub call : ℕ
