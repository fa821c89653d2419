use Rattle.std.proofs.Common.{rules, ◌≡◌}
use Rattle.listing.specs.Reading.{told}
use Rattle.job.specs.declared.call.Answer.TheVariants as answer
use Rattle.job.specs.Calls.{lists_of}
use Rattle.job.proofs.Calling.{of_read, of_bar, of_free, of_solve, of_test, of_show, of_plain, of_look, of_report}
use Rattle.job.proofs.job.Job.answer.Goals as goal

pub returns-in-Read-clause-answer : goal.returns-in-Read-clause-answer
returns-in-Read-clause-answer g c =
    let m : c.map.result ≡ told answer.Places c.read.result = search rules in
    of_read (λ p. g.K.Machine.means (g.K.Kind.made p)) _ (lists_of c.args.memory.now) c.in-Read.is m c.read.ensures

pub returns-in-Bar-clause-answer : goal.returns-in-Bar-clause-answer
returns-in-Bar-clause-answer g c =
    let m : c.map-in-Bar.result ≡ told (λ _. answer.Barred) c.bar.result = search rules in
    of_bar (λ p. g.K.Machine.means (g.K.Kind.made p)) _ (lists_of c.args.memory.now) c.in-Bar.is m c.bar.ensures

pub returns-in-Free-clause-answer : goal.returns-in-Free-clause-answer
returns-in-Free-clause-answer g c =
    let m : c.map-in-Free.result ≡ told (λ _. answer.Freed) c.free.result = search rules in
    of_free (λ p. g.K.Machine.means (g.K.Kind.made p)) _ (lists_of c.args.memory.now) c.in-Free.is m c.free.ensures

pub returns-in-Solve-clause-answer : goal.returns-in-Solve-clause-answer
returns-in-Solve-clause-answer g c =
    let m : c.map-in-Solve.result ≡ told answer.Solved c.solve.result = search rules in
    of_solve (λ p. g.K.Machine.means (g.K.Kind.made p)) _ (lists_of c.args.memory.now) c.solve.new.rows c.solve.new.notes c.in-Solve.is m c.solve.ensures

pub returns-in-Test-clause-answer : goal.returns-in-Test-clause-answer
returns-in-Test-clause-answer g c =
    let m : c.map-in-Test.result ≡ told answer.Tested c.test.result = search rules in
    of_test (λ p. g.K.Machine.means (g.K.Kind.made p)) _ (lists_of c.args.memory.now) c.test.new.rows c.test.new.notes c.test.new.run c.in-Test.is m c.test.ensures

pub returns-in-Show-clause-answer : goal.returns-in-Show-clause-answer
returns-in-Show-clause-answer g c =
    let m : c.map-in-Show.result ≡ told answer.Shown c.show.result = search rules in
    of_show (λ p. g.K.Machine.means (g.K.Kind.made p)) _ (lists_of c.args.memory.now) c.show.new.rows c.show.new.notes c.show.new.run c.in-Show.is m c.show.ensures

pub returns-in-Plain-clause-answer : goal.returns-in-Plain-clause-answer
returns-in-Plain-clause-answer g c =
    let m : c.map-in-Plain.result ≡ told answer.Plain c.plain.result = search rules in
    of_plain (λ p. g.K.Machine.means (g.K.Kind.made p)) _ (lists_of c.args.memory.now) c.plain.new.rows c.plain.new.notes c.plain.new.run c.in-Plain.is m c.plain.ensures

pub returns-in-Look-clause-answer : goal.returns-in-Look-clause-answer
returns-in-Look-clause-answer g c =
    of_look (λ p. g.K.Machine.means (g.K.Kind.made p)) _ (lists_of c.args.memory.now) c.in-Look.is (search rules)

pub returns-in-Report-clause-answer : goal.returns-in-Report-clause-answer
returns-in-Report-clause-answer g c =
    let m : c.map-in-Report.result ≡ told answer.Reported c.report.result = search rules in
    of_report (λ p. g.K.Machine.means (g.K.Kind.made p)) _ (lists_of c.args.memory.now) c.report.new.out c.in-Report.is m c.report.ensures.value
