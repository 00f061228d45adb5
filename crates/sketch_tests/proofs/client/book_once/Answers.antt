-- The law at the run of the two calls. Of the model only definitions are used here: the law comes from the contract of `open`.
use Rattle.std.proofs.Common.{◌≡◌, ℕ, cond, List, map, ℤ, pos, ◌+ℤ◌, None, sym, refl, ap, ◌∙◌}
use mathlib.Core.Path.{fun_ext}
use lib.IntN.{+ℤ_idl}
use Rattle.signs.specs.Faults.{accepts, unless}
use Rattle.signs.specs.Family.{Meaning}
use Rattle.signs.proofs.Answers.{accepted, said}
use Rattle.model.specs.declared.Booking.{Booking}
use Rattle.model.specs.Calls.{State, open_refusal, begun, post_refusal, posted}
use Rattle.model.specs.Choices.{cell_of}
use Rattle.model.specs.Law.{SketchLaw}
use Rattle.model.specs.Runs as runs
use Rattle.model.specs.Runs.{Run, opened, post, after, Permitted}
use Rattle.model.specs.Standing.{weight_at, standing}
use Rattle.sketch.specs.Promises.{open_state}
use Rattle.sketch_tests.proofs.client.book_once.Goals as goal

module _ (F : Meaning) (seeds : List ℕ) (groups columns : ℕ) (found : List ℤ) (b : Booking) where
  abbrev run : Run
  run = post (opened groups columns found) b

  permitted : open_refusal F groups columns seeds found ≡ None → Permitted F seeds run
  unfolding Permitted after
  permitted e = (e, refl)

  weights : post_refusal F seeds (begun groups columns found) b ≡ None → standing (runs.accepted F seeds) run ≡ weight_at b
  unfolding standing after
  weights e = fun_ext (λ i. ap (λ x. pos 0 +ℤ cond (accepts x) (weight_at b i) (pos 0)) e ∙ +ℤ_idl (weight_at b i))

  -- the state that the two calls leave
  leaves : (before left : State) → before ≡ begun groups columns found → left ≡ unless (post_refusal F seeds before b) before (posted F seeds before b) → left ≡ after F seeds run
  unfolding after
  leaves before left e f = f ∙ ap (λ s. unless (post_refusal F seeds s b) s (posted F seeds s b)) e

  cells : SketchLaw F → (before left : State) → open_refusal F groups columns seeds found ≡ None → before ≡ begun groups columns found → post_refusal F seeds before b ≡ None → left ≡ unless (post_refusal F seeds before b) before (posted F seeds before b)
      → left.cells ≡ map (cell_of F (weight_at b)) seeds
  cells law before left opens is passes f =
      ap (λ s. s.cells) (leaves before left is f)
      ∙ (law.faithful seeds run (permitted opens)).cells
      ∙ ap (λ W. map (cell_of F W) seeds) (weights (ap (λ s. post_refusal F seeds s b) (sym is) ∙ passes))

pub returns : goal.returns
returns g c =
    let F = g.F.SignFamily.meaning c.args.family.now in
    let seeds = c.args.seeds.now in
    let found = c.args.cells.now in
    let b = c.args.booking in
    let start = begun c.args.shape.groups c.args.shape.columns found in
    let refusal = open_refusal F c.args.shape.groups c.args.shape.columns seeds found in
    let before = open_state c.in_ok-sketch.sketch c.open.new.cells in
    let answers = c.in_ok-sketch.ensures.opens.answers in
    let posts = c.in_ok-post.ensures in
    cells F seeds c.args.shape.groups c.args.shape.columns found b c.in_ok-sketch.ensures.law before _
    (accepted refusal start before (sym answers))
    (said refusal start before answers)
    (accepted (post_refusal F seeds before b) tt tt (sym posts.answers))
    posts.leaves
