-- What a contract sees of a walk over the words of one partition, by rising rows (this project's own).
use Rattle.std.specs.Prelude.{ℕ}

-- whose words the walk gives, and the least row that it may still be asked for
pub record Walk : Type 0 where
  pub seed : ℕ
  pub part : ℕ
  pub next : ℕ
