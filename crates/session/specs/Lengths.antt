-- How long the lists are that a session lends.
use Rattle.std.specs.Prelude.{◌≡◌, vec_len}
use Rattle.session.specs.declared.lent.Lengths.{Lengths}
use Rattle.session.specs.declared.lent.Lent.{Lent}

-- a search has as many notes as rows, for either machine, and the run list is as long as is asked
pub record IsAsLong {S : Type 0} (lengths : Lengths) (lent : Lent S) : Type 0 where
  pub rows : vec_len lent.rows ≡ lengths.rows
  pub pictures : vec_len lent.pictures ≡ lengths.rows
  pub notes : vec_len lent.notes ≡ lengths.rows
  pub run : vec_len lent.run ≡ lengths.runs
