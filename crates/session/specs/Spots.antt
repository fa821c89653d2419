-- Instructions as reports name them, and places.
use Rattle.std.specs.Prelude.{ℕ, ◌-◌, cond, nat_lt}
use Rattle.listing.specs.declared.program.Program.{Program}
use Rattle.listing.specs.Code.{length_of, place_of, thread_at}
use Rattle.session.specs.declared.command.Spot.{Spot}

-- the place before an instruction, or one that no program has where there is no such instruction
abbrev pub place_at : Spot → Program → ℕ
place_at s p = cond (nat_lt s.number (length_of p s.thread)) (place_of p s.thread s.number) 255

-- the instruction that a place stands before
abbrev pub spot_at : Program → ℕ → Spot
spot_at p place = record { thread = thread_at p place; number = place - place_of p (thread_at p place) 0 }
