-- White space and comments lead from a state between two tokens to one of this kind, byte by byte.
use Rattle.std.proofs.Common.{◌≡◌, ℕ, ◌<◌, Bool, true, false, cond, not, ◌==◌, List, [], ◌∷◌, ◌++◌, length, length-append, flat_map, encode_utf8_all}
use Rattle.std.proofs.Common.{refl, ap, ◌∙◌, sym, subst, append_assoc, arith, None, inl, inr}
use Rattle.std.proofs.lemmas.Bool.{and_parts}
use Rattle.std.specs.Char.{IsScalar, encode_utf8}
use Rattle.std.specs.List.{AllByRecursion}
use Rattle.std.specs.Str.{all_scalars}
use Rattle.text_model.specs.Characters.{each}
use Rattle.text_model.specs.Spelling.{Gap, white, comment, gap_bytes, AreOfLine, IsGap, IsBlank, Skips}
use Rattle.text_model.specs.Nest.{Nest}
use Rattle.text_model.specs.Faults.{IsBlankEnd}
use Rattle.text_model.specs.Reader.{Lexeme, between, in_comment, in_lexeme, is_gap, sequence, comment_led, led, last_fault}
use Rattle.text_model.proofs.ComesComments.{line_end}
use Rattle.text_model.proofs.Sequences.{sequence_of_character, sequence_of_front, encode_some}

-- from a lexeme that is no token to another, over all of some bytes, whatever their offset is
abbrev pub Walks : Nest → Lexeme → List ℕ → Lexeme → Type 0
Walks n l [] m = l ≡ m
Walks n l (x ∷ rest) m = (k : Lexeme) × (is_gap k ≡ true) × ((at : ℕ) → led n at x l ≡ in_lexeme n k) × Walks n k rest m

walks_append : (n : Nest) (l k m : Lexeme) (bytes more : List ℕ) → Walks n l bytes k → Walks n k more m → Walks n l (bytes ++ more) m
walks_append n l k m [] more e w = subst (λ j. Walks n j more m) (sym e) w
walks_append n l k m (x ∷ bytes) more v w = (v.0, v.1, v.2, walks_append n v.0 k m bytes more v.3 w)

-- ---- comments

gap_there : (b : Bool) → is_gap (cond b between (in_comment [])) ≡ true
gap_there true = refl
gap_there false = refl

-- the bytes that are left of a character
pub character_walks : (n : Nest) (c : ℕ) (front rest : List ℕ) → IsScalar c → encode_utf8 c ≡ front ++ rest → 0 < length rest
    → Walks n (in_comment front) rest (cond (c == 10) between (in_comment []))
character_walks n c front [] scalar e some = absurd (omega arith)
character_walks n c front (x ∷ []) scalar e some = (
  cond (c == 10) between (in_comment []),
  gap_there (c == 10),
  λ at. ap (comment_led n _ (front ++ x ∷ [])) (ap sequence (sym e) ∙ sequence_of_character c scalar),
  refl,
)
character_walks n c front (x ∷ y ∷ rest) scalar e some =
    let parted : encode_utf8 c ≡ (front ++ x ∷ []) ++ y ∷ rest = e ∙ sym (append_assoc front (x ∷ []) (y ∷ rest)) in (
      in_comment (front ++ x ∷ []),
      refl,
      λ at. ap (comment_led n _ (front ++ x ∷ []))
          (sequence_of_front c (front ++ x ∷ []) (y ∷ rest) scalar parted (omega (arith, length-append front (x ∷ []))) (omega arith)),
      character_walks n c (front ++ x ∷ []) (y ∷ rest) scalar parted (omega arith),
    )

line_walks : (n : Nest) (cs : List ℕ) → all_scalars cs ≡ true → each (λ c. not (c == 10)) cs ≡ true
    → Walks n (in_comment []) (encode_utf8_all cs) (in_comment [])
line_walks n [] e f = refl
line_walks n (c ∷ cs) e f =
    let scalars = and_parts _ (all_scalars cs) e in
    let line = and_parts (not (c == 10)) (each (λ c. not (c == 10)) cs) f in
    walks_append n (in_comment []) (in_comment []) (in_comment []) (encode_utf8 c) (encode_utf8_all cs)
    (subst (Walks n (in_comment []) (encode_utf8 c)) (on_line (c == 10) line.0)
    (character_walks n c [] (encode_utf8 c) scalars.0 refl (encode_some c)))
    (line_walks n cs scalars.1 line.1)
  where
    on_line : (b : Bool) → not b ≡ true → cond b between (in_comment []) ≡ in_comment []
    on_line true e = cc
    on_line false e = refl

-- a comment that does not end
pub comment_walks : (n : Nest) (cs : List ℕ) → AreOfLine cs → Walks n between (37 ∷ encode_utf8_all cs) (in_comment [])
comment_walks n cs line = (in_comment [], refl, λ at. refl, line_walks n cs line.0 line.1)

-- ---- blanks

gap_walks : (n : Nest) (g : Gap) → IsGap g → Walks n between (gap_bytes g) between
gap_walks n (white x) e = (between, refl, λ at. rw e, refl)
gap_walks n (comment cs) line =
    walks_append n between (in_comment []) between (37 ∷ encode_utf8_all cs) (10 ∷ []) (comment_walks n cs line)
    (character_walks n 10 [] (10 ∷ []) refl line_end (omega arith))

gaps_walk : (n : Nest) (gaps : List Gap) → AllByRecursion IsGap gaps → Walks n between (flat_map gap_bytes gaps) between
gaps_walk n [] all = refl
gaps_walk n (g ∷ gaps) all =
    walks_append n between between between (gap_bytes g) (flat_map gap_bytes gaps) (gap_walks n g all.0) (gaps_walk n gaps all.1)

pub blank_walks : (n : Nest) (bytes : List ℕ) → IsBlank bytes → Walks n between bytes between
blank_walks n bytes b = subst (λ l. Walks n between l between) (sym b.whole) (gaps_walk n b.gaps b.each_one)

-- ---- the last of them

-- a comment that does not end, behind blanks
pub skips_comment_walks : (n : Nest) (cs bytes : List ℕ) → AreOfLine cs → Skips bytes (37 ∷ encode_utf8_all cs) → Walks n between bytes (in_comment [])
skips_comment_walks n cs bytes line (blanks, b, parted) =
    subst (λ l. Walks n between l (in_comment [])) (sym parted)
    (walks_append n between between (in_comment []) blanks (37 ∷ encode_utf8_all cs) (blank_walks n blanks b) (comment_walks n cs line))

-- to the end of the input, with no part of a character there
pub record IsBlankWalk (n : Nest) (bytes : List ℕ) : Type 0 where
  pub lexeme : Lexeme
  pub gap : is_gap lexeme ≡ true
  pub whole : (end : ℕ) → last_fault n end lexeme ≡ None
  pub walks : Walks n between bytes lexeme

pub blank_end_walk : (n : Nest) (bytes : List ℕ) → IsBlankEnd bytes → IsBlankWalk n bytes
blank_end_walk n bytes (inl b) = record { lexeme = between; gap = refl; whole = λ end. refl; walks = blank_walks n bytes b }
blank_end_walk n bytes (inr (cs, line, skips)) =
    record { lexeme = in_comment []; gap = refl; whole = λ end. refl; walks = skips_comment_walks n cs bytes line skips }
