use Rattle.std.proofs.Common.{◌≡◌, ◌-◌, ap, ◌∙◌, append_assoc, arith}
use Rattle.listing.specs.Code.{place_of, thread_at}
use Rattle.job.specs.Text.{decimal, before}
use Rattle.job.proofs.Decimal.{printed}
use Rattle.job.proofs.lines.push_before.Goals as goal

pub returns-clause-after : goal.returns-clause-after
unfolding before
returns-clause-after c =
    let p = c.args.program.now in
    let place = c.args.place in
    let thread : c.format.result.now ≡ decimal (thread_at p place)
    = c.format.ensures.text ∙ (printed c.thread_at-thread.result (omega arith) ∙ ap decimal c.thread_at-thread.ensures.value) in
    let first : c.first_place.result ≡ place_of p (thread_at p place) 0
    = c.first_place.ensures.value ∙ ap (λ t. place_of p t 0) c.thread_at-thread.ensures.value in
    let number : c.format-2.result.now ≡ decimal (place - place_of p (thread_at p place) 0)
    = c.format-2.ensures.text ∙ (printed (place - c.first_place.result) (omega arith) ∙ ap (λ n. decimal (place - n)) first) in
    rw (c.push_str-5.ensures.bytes, c.push_str-4.ensures.bytes, c.push_str-3.ensures.bytes, c.push_str-2.ensures.bytes, c.push_str.ensures.bytes, thread, number) (simp append_assoc)
