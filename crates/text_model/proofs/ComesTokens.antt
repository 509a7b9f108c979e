-- One more token or one more gap, and one more byte, behind what was read.
use Rattle.std.proofs.Common.{◌≡◌, ℕ, ◌+◌, Bool, true, false, cond, List, [], ◌∷◌, ◌++◌, length, length-append, flat_map, Ok, refl, ap, ◌∙◌, sym}
use Rattle.std.proofs.Common.{subst, append_assoc, append-nil, arith}
use Rattle.std.specs.List.{AllByRecursion}
use Rattle.dets_term.specs.TermValue.{TermValue}
use Rattle.text_model.specs.Token.{Token}
use Rattle.text_model.specs.Spelling.{Gap, gap_bytes, IsGap, IsBlank, Stands, Skips}
use Rattle.text_model.specs.Grammar.{strict}
use Rattle.text_model.specs.Nest.{Nest, stopped, take}
use Rattle.text_model.specs.Located.{SpellsTo}
use Rattle.text_model.proofs.Comes.{IsGoing, Before}
use Rattle.text_model.proofs.TakenSteps.{take_all_push}

-- a property of what a test chooses
pub by_test : {A : Type 0} (P : A → Type 0) (b : Bool) (x y : A) → (b ≡ true → P x) → (b ≡ false → P y) → P (cond b x y)
by_test P true x y f g = f refl
by_test P false x y f g = g refl

-- ---- tokens

-- a token behind others
spells_push : (ps : List (ℕ × Token)) (total start : ℕ) (token : Token) (bytes middle here behind : List ℕ) → SpellsTo total ps bytes middle
    → Skips middle here → total ≡ start + length here → Stands token here behind → SpellsTo total (ps ++ (start, token) ∷ []) bytes behind
spells_push [] total start token bytes middle here behind e skips at stands =
    (here, behind, subst (λ b. Skips b here) (sym e) skips, at, stands, refl)
spells_push (p ∷ ps) total start token bytes middle here behind e skips at stands =
    (e.0, e.1, e.2, e.3, e.4, spells_push ps total start token e.1 middle here behind e.5 skips at stands)

-- ---- blanks

pub no_blank : IsBlank []
no_blank = record { gaps = []; each_one = tt; whole = refl }

gaps_push : (gaps : List Gap) (g : Gap) → AllByRecursion IsGap gaps → IsGap g → AllByRecursion IsGap (gaps ++ g ∷ [])
gaps_push [] g all one = (one, tt)
gaps_push (h ∷ gaps) g all one = (all.0, gaps_push gaps g all.1 one)

gap_bytes_push : (gaps : List Gap) (g : Gap) → flat_map gap_bytes gaps ++ gap_bytes g ≡ flat_map gap_bytes (gaps ++ g ∷ [])
gap_bytes_push [] g = sym (append-nil (gap_bytes g))
gap_bytes_push (h ∷ gaps) g =
    append_assoc (gap_bytes h) (flat_map gap_bytes gaps) (gap_bytes g) ∙ ap (λ l. gap_bytes h ++ l) (gap_bytes_push gaps g)

blank_push : (blanks : List ℕ) (g : Gap) → IsBlank blanks → IsGap g → IsBlank (blanks ++ gap_bytes g)
blank_push blanks g b one = record {
  gaps = b.gaps ++ g ∷ [];
  each_one = gaps_push b.gaps g b.each_one one;
  whole = ap (λ l. l ++ gap_bytes g) b.whole ∙ gap_bytes_push b.gaps g;
}

-- ---- what was read

-- a byte behind what was read is one more of what is begun
pub before_more : (p : List ℕ) (n : Nest) (start x : ℕ) (front : List ℕ) → IsGoing n → Before p n start front
    → Before (p ++ x ∷ []) n start (front ++ x ∷ [])
before_more p n start x front going b = record {
  tokens = b.tokens;
  taken = b.taken;
  blanks = b.blanks;
  blank = b.blank;
  spelled = λ more.
      subst (λ l. SpellsTo l b.tokens ((p ++ x ∷ []) ++ more) (b.blanks ++ ((front ++ x ∷ []) ++ more))) (total more)
      (subst (λ l. SpellsTo (length p + length (x ∷ more)) b.tokens l (b.blanks ++ ((front ++ x ∷ []) ++ more))) (sym (append_assoc p (x ∷ []) more))
      (subst (λ l. SpellsTo (length p + length (x ∷ more)) b.tokens (p ++ x ∷ more) (b.blanks ++ l)) (sym (append_assoc front (x ∷ []) more))
      (b.spelled (x ∷ more))));
  offset = omega (arith, b.offset, length-append p (x ∷ []), length-append front (x ∷ []));
  stop = λ t e. absurd (going t e);
}
  where
    total : (more : List ℕ) → length p + length (x ∷ more) ≡ length (p ++ x ∷ []) + length more
    total more = omega (arith, length-append p (x ∷ []))

-- the bytes are equal
pub before_same : (p : List ℕ) (n : Nest) (start : ℕ) (front other : List ℕ) → front ≡ other → Before p n start front → Before p n start other
before_same p n start front other e b = subst (λ l. Before p n start l) e b

-- what is begun becomes a gap
pub before_gap : (p : List ℕ) (n : Nest) (start : ℕ) (g : Gap) → IsGap g → Before p n start (gap_bytes g) → Before p n (length p) []
before_gap p n start g one b = record {
  tokens = b.tokens;
  taken = b.taken;
  blanks = b.blanks ++ gap_bytes g;
  blank = blank_push b.blanks g b.blank one;
  spelled = λ more.
      subst (λ l. SpellsTo (length p + length more) b.tokens (p ++ more) l) (sym (append_assoc b.blanks (gap_bytes g) more)) (b.spelled more);
  offset = omega arith;
  stop = λ t e. append-nil (b.blanks ++ gap_bytes g) ∙ b.stop t e;
}

-- what is begun has a whole token in front, and then the next one begins
pub before_token : (p : List ℕ) (n m : Nest) (start at : ℕ) (token : Token) (front behind : List ℕ) → Before p n start front
    → ((more : List ℕ) → Stands token (front ++ more) (behind ++ more)) → take strict n start token ≡ Ok m → length p ≡ at + length behind
    → ((t : TermValue) → m.place ≡ stopped t → behind ≡ []) → Before p m at behind
before_token p n m start at token front behind b stands taken there stop = record {
  tokens = b.tokens ++ (start, token) ∷ [];
  taken = take_all_push strict _ n m b.tokens start token b.taken taken;
  blanks = [];
  blank = no_blank;
  spelled = λ more.
      spells_push b.tokens (length p + length more) start token (p ++ more) (b.blanks ++ (front ++ more)) (front ++ more) (behind ++ more)
      (b.spelled more) (b.blanks, b.blank, refl) (total more) (stands more);
  offset = there;
  stop = stop;
}
  where
    total : (more : List ℕ) → length p + length more ≡ start + length (front ++ more)
    total more = omega (arith, b.offset, length-append front more)
