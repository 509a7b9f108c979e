-- The words of commands and replies are ASCII, so their characters are their bytes.
use Rattle.std.proofs.Common.{◌≡◌, ℕ, List, refl, ap, ◌∙◌, sym}
use Rattle.std.specs.Prelude.{codes}
use Rattle.std.specs.Str.{bytes_eq, chars, IsUtf8, encode_utf8_all}
use Rattle.std.proofs.lemmas.Str.{encodes-chars}
use Rattle.std.proofs.lemmas.Bool.Decides.{same_from_decides}
use lib.Pointwise.{bytes_decides}

pub chars_open : chars (codes "open") ≡ codes "open"
unfolding chars
chars_open = refl

pub chars_insert : chars (codes "insert") ≡ codes "insert"
unfolding chars
chars_insert = refl

pub chars_lookup : chars (codes "lookup") ≡ codes "lookup"
unfolding chars
chars_lookup = refl

pub chars_ok : chars (codes "ok") ≡ codes "ok"
unfolding chars
chars_ok = refl

pub chars_table : chars (codes "table") ≡ codes "table"
unfolding chars
chars_table = refl

-- texts of equal characters alone have equal bytes
pub same_texts : (a b : List ℕ) → IsUtf8 a → IsUtf8 b → bytes_eq a b ≡ bytes_eq (chars a) (chars b)
same_texts a b ua ub =
    same_from_decides (bytes_eq a b) (bytes_eq (chars a) (chars b)) (bytes_decides a b) (
      λ e. sym (encodes-chars a ua) ∙ ap encode_utf8_all ((bytes_decides (chars a) (chars b)).0 e) ∙ encodes-chars b ub,
      λ e. (bytes_decides (chars a) (chars b)).1 (ap chars e),
    )
