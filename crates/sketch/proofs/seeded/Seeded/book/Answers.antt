use Rattle.std.proofs.Common.{sym, ◌∙◌, arith}
use Rattle.signs.proofs.Answers.{interval_there}
use Rattle.model.proofs.Checks.{tables_passed}
use Rattle.sketch.specs.Promises.{tally_of}
use Rattle.sketch.proofs.seeded.Seeded.book.Goals as goal

pub add_gains-requires : goal.add_gains-requires
add_gains-requires g c =
    let F = g.F.SignFamily.meaning c.args.self.now.family.now in
    let fitting = tables_passed F c.args.self.now.seeds.now (tally_of c.args.figures) c.args.cells.now c.requires.tables in
    let interval = interval_there F.width c.args.booking.from c.args.booking.to c.requires.interval in
    record {
      same = fitting.seeds_long ∙ sym fitting.cells_long;
      known = fitting.known;
      own = λ k h. omega (arith, fitting.own k h, c.args.figures.limited);
      some = interval.some;
      within = interval.within;
      light = c.requires.light;
    }
