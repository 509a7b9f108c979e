use Rattle.std.proofs.Common.{◌≡◌, ◌≢◌, ◌==◌, Bool, ℕ, ◌<◌, ◌≤◌, List, [], length, true, false, refl, ap, sym, ◌∙◌, subst, arith}
use Rattle.etf_model.specs.SpellingFeed.{SpellingFeed, longest}
use Rattle.etf_codec.specs.declared.feed.TermFeed.TheInside.{Inside}
use Rattle.etf_codec.proofs.FeedSteps.{part_left, gives_long, gives_short}
use Rattle.etf_codec.proofs.feed.TermFeed.behind_the_last.Goals as goal

left_is : (a : Inside) (s : SpellingFeed) → record { left = a.left.items; offset = a.offset; finished = a.finished; fault = a.fault } ≡ s
    → length s.left ≡ length a.left.items
left_is a s view = ap (λ (t : SpellingFeed). length t.left) (sym view)

pub returns-then-len-ge-LONGEST : goal.returns-then-len-ge-LONGEST
returns-then-len-ge-LONGEST c =
    let kept = c.keep_fault-then-len-ge-LONGEST in
    let many : longest ≤ length c.args.self.now.left =
    omega (arith, c.if-len-ge-LONGEST.true, c.len.ensures.value, left_is c.self.inside c.args.self.now c.self.view_is) in
    gives_long c.args.self.now kept.new.self c.keep_fault.inside.offset kept.result (ap (λ (s : SpellingFeed). s.offset) c.keep_fault.view_is) many c.requires
    kept.ensures.kept kept.ensures.same

pub returns-then-not-self : goal.returns-then-not-self
returns-then-not-self c =
    let few : length c.args.self.now.left < longest =
    omega (arith, c.if-len-ge-LONGEST.false, c.len.ensures.value, left_is c.self.inside c.args.self.now c.self.view_is) in (
      (
        ap (λ (s : SpellingFeed). s.finished) (sym c.self.view_is) ∙ c.if-not-self.true,
        few,
        part_left c.args.self.now.left few c.requires,
      ),
      refl,
    )

some_left : (items : List ℕ) (b : Bool) → b ≡ (length items == 0) → b ≡ false → items ≢ []
some_left items b is some none = let clash : true ≡ false = ap (λ (l : List ℕ). length l == 0) (sym none) ∙ sym is ∙ some in cc

pub returns-else-is_empty : goal.returns-else-is_empty
returns-else-is_empty c =
    let kept = c.keep_fault-else-is_empty in
    let few : length c.args.self.now.left < longest =
    omega (arith, c.if-len-ge-LONGEST.false, c.len.ensures.value, left_is c.self.inside c.args.self.now c.self.view_is) in
    gives_short c.args.self.now kept.new.self kept.result
    (ap (λ (s : SpellingFeed). s.finished) (sym c.self.view_is) ∙ c.if-not-self.false)
    (subst (λ (s : SpellingFeed). s.left ≢ []) c.self.view_is (some_left c.self.inside.left.items c.is_empty.result c.is_empty.ensures c.if-is_empty.false))
    few c.requires kept.ensures.kept kept.ensures.same
