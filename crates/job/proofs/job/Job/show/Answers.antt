use Rattle.std.proofs.Common.{◌≡◌, true, Some, Ok, rules, ap, sym, ◌∙◌, length}
use Rattle.machines.specs.Places.{has, removing}
use Rattle.search.specs.Answers.{tested, verdict}
use Rattle.search.specs.Enough.{rows_lent}
use Rattle.job.specs.Loads.{held_in}
use Rattle.job.proofs.Arising.{machine_of, solved_of}
use Rattle.job.proofs.Lawful.{lawful_made}
use Rattle.job.proofs.Needed.{written}
use Rattle.job.proofs.job.Job.show.Goals as goal

pub unwrap-requires : goal.unwrap-requires
unwrap-requires g c =
    let l = c.in_ok-loaded.loaded.now in
    let p = l.program in
    let k = c.in_ok-kept.kept in
    let means = g.K.Machine.means in
    let made = g.K.Kind.made in
    let q = c.args.place in
    let n = rows_lent c.args.rows.now c.args.notes.now in
    let long = length c.args.run.now in
    let is : c.self.inside.loaded ≡ Some l = search rules in
    let kept : l.kept ≡ Some k = search rules in
    let held : has k.places.mask q ≡ true = search rules in
    let own = machine_of c.self.invariant is in
    let found : c.test.result ≡ Ok c.in_ok-found.found = search rules in
    let others : c.without-others.result.mask ≡ removing k.places.mask q = c.without-others.ensures in
    let test : verdict c.test.result ≡ tested p (means l.machine) n long c.without-others.result.mask = c.test.ensures.answer in
    written (λ x. means (made x)) {h = held_in l} {k = k} (lawful_made g.met.K.Machine.lawful g.met.K.Kind.its_own p) (solved_of c.self.invariant is kept) q held n long c.in_ok-found.found
    (sym (ap verdict found) ∙ (test ∙ (ap (λ m. tested p (means m) n long c.without-others.result.mask) own ∙ ap (λ s. tested p (means (made p)) n long s) others)))
