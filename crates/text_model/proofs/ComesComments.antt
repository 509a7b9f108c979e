-- A byte in a comment.
use Rattle.std.proofs.Common.{◌≡◌, ℕ, ◌+◌, ◌-◌, ◌<◌, cond, not, ◌==◌, List, [], ◌∷◌, ◌++◌, length, length-append, encode_utf8_all, eqb-true, refl, ap}
use Rattle.std.proofs.Common.{◌∙◌, sym, append_assoc, append-nil, inl, inr, arith}
use Rattle.std.specs.Char.{IsScalar, encode_utf8}
use Rattle.text_model.specs.Spelling.{comment}
use Rattle.text_model.specs.Nest.{Nest}
use Rattle.text_model.specs.Reader.{between, in_comment, Sequence, whole, part, wrong, sequence, comment_led}
use Rattle.text_model.proofs.Comes.{IsGoing, IsInComment, Comes}
use Rattle.text_model.proofs.ComesRows.{comment_row, Leads}
use Rattle.text_model.proofs.ComesTokens.{by_test, before_more, before_same, before_gap}
use Rattle.text_model.proofs.OneMore.{each_push, scalars_push, encode_push, grown_cut}
use Rattle.text_model.proofs.Sequences.{IsGrown, character_of_sequence, wrong_stays}

-- the UTF-8 of a line end
pub line_end : encode_utf8 10 ≡ 10 ∷ []
unfolding encode_utf8
line_end = refl

-- a byte more of a comment
comment_more : (p : List ℕ) (n : Nest) (x : ℕ) (bytes : List ℕ) → IsGoing n → IsInComment p n bytes → IsInComment (p ++ x ∷ []) n (bytes ++ x ∷ [])
comment_more p n x bytes going c = record {
  start = c.start;
  characters = c.characters;
  line = c.line;
  before =
      before_same (p ++ x ∷ []) n c.start _ (37 ∷ (encode_utf8_all c.characters ++ (bytes ++ x ∷ [])))
      (ap (λ l. 37 ∷ l) (append_assoc (encode_utf8_all c.characters) bytes (x ∷ [])))
      (before_more p n c.start x (37 ∷ (encode_utf8_all c.characters ++ bytes)) going c.before);
}

-- a whole character of a comment
character_leads : (p : List ℕ) (n : Nest) (bytes : List ℕ) (c : ℕ) → IsInComment p n bytes → bytes ≡ encode_utf8 c → IsScalar c
    → Comes p n (cond (c == 10) between (in_comment []))
character_leads p n bytes c b e scalar =
    by_test (Comes p n) (c == 10) _ _
    (λ t. before_gap p n b.start (comment b.characters) b.line
    (before_same p n b.start _ _ (ap (λ l. 37 ∷ (encode_utf8_all b.characters ++ l)) (e ∙ ap encode_utf8 (eqb-true c 10 t) ∙ line_end)) b.before))
    (λ t. (
      inl refl,
      record {
        start = b.start;
        characters = b.characters ++ c ∷ [];
        line = (scalars_push b.characters c b.line.0 scalar, each_push (λ x. not (x == 10)) b.characters c b.line.1 (ap not t));
        before =
            before_same p n b.start _ (37 ∷ (encode_utf8_all (b.characters ++ c ∷ []) ++ []))
            (ap (λ l. 37 ∷ l) (ap (λ l. encode_utf8_all b.characters ++ l) e ∙ sym (encode_push b.characters c)
            ∙ sym (append-nil (encode_utf8_all (b.characters ++ c ∷ []))))) b.before;
      },
    ))

comment_by : (p : List ℕ) (n : Nest) (at : ℕ) (bytes : List ℕ) (s : Sequence) → IsInComment p n bytes → IsGrown bytes → 0 < length bytes
    → length p ≡ at + length bytes → sequence bytes ≡ s → Leads p (comment_led n at bytes s)
comment_by p n at bytes (whole c) b grown some there e =
    let is = character_of_sequence bytes c e grown in character_leads p n bytes c b is.0 is.1
comment_by p n at bytes part b grown some there e = (inr e, b)
comment_by p n at bytes wrong b grown some there e = comment_row (record {
  nest = n;
  bytes = bytes;
  comment = b;
  some = some;
  there = there;
  bad = wrong_stays bytes e grown;
  reason = refl;
})

pub comment_leads : (p : List ℕ) (n : Nest) (x : ℕ) (bytes : List ℕ) → IsGoing n → Comes p n (in_comment bytes)
    → Leads (p ++ x ∷ []) (comment_led n (length p - length bytes) (bytes ++ x ∷ []) (sequence (bytes ++ x ∷ [])))
comment_leads p n x bytes going (is_cut, c) =
    let one : length (bytes ++ x ∷ []) ≡ length bytes + 1 = length-append bytes (x ∷ []) in
    let all : length (p ++ x ∷ []) ≡ length p + 1 = length-append p (x ∷ []) in
    let offset : length p ≡ c.start + length (37 ∷ (encode_utf8_all c.characters ++ bytes)) = c.before.offset in
    comment_by (p ++ x ∷ []) n (length p - length bytes) (bytes ++ x ∷ []) (sequence (bytes ++ x ∷ [])) (comment_more p n x bytes going c)
    (grown_cut bytes x is_cut) (omega arith) (omega (arith, offset, length-append (encode_utf8_all c.characters) bytes)) refl
