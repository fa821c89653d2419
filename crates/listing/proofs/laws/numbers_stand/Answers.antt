use Rattle.listing.proofs.Numbering.{places_count, registers_apart, variables_apart}
use Rattle.listing.proofs.Reasons.{numbers_are_the_table}
use Rattle.listing.proofs.WithinLimits.{limits_are, programs_keep}
use Rattle.listing.proofs.laws.numbers_stand.Goals as goal

pub returns : goal.returns
returns c =
    record {
      limits = limits_are;
      programs = programs_keep;
      places = places_count;
      registers = registers_apart;
      variables = variables_apart;
      refusals = numbers_are_the_table;
    }
