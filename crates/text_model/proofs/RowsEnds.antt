-- A whole token that is refused, in front of more bytes or at the end of the input, and a comment that the end cuts.
use Rattle.std.proofs.Common.{◌<◌, ℕ, List, [], ◌∷◌, ◌++◌, length, encode_utf8_all, append-nil, refl, sym, subst, inr, arith}
use Rattle.text_model.specs.declared.fault.TextWhy.{TextWhy}
use Rattle.text_model.specs.Token.{Token, sort_of}
use Rattle.text_model.specs.Spelling.{Stands}
use Rattle.text_model.specs.Nest.{Nest, take}
use Rattle.text_model.specs.Located.{tokens_of}
use Rattle.text_model.specs.Faults.{Shows, with_repeats, IsSettled, Breaks}
use Rattle.text_model.proofs.Comes.{Before}
use Rattle.text_model.proofs.LongerTokens.{stands_shows}
use Rattle.text_model.proofs.ComesRows.{TokenRow}
use Rattle.text_model.proofs.ComesEnds.{IsSettledAt, LastTokenRow, LastCommentRow}
use Rattle.text_model.proofs.TokenStarts.{front_some}
use Rattle.text_model.proofs.RowsWell.{IsRead, read_before, goes_well}
use Rattle.text_model.proofs.LongestTokens.{no_longer_stands}
use Rattle.text_model.proofs.RowsTokens.{no_result, token_breaks}
use Rattle.text_model.proofs.MayStand.{more_taken}
use Rattle.text_model.proofs.Looser.{repeating_taken}

-- where more bytes do not change the token no longer one begins so
settled_before : (token : Token) (tokens : List Token) (front behind more : List ℕ)
    → ((others : List ℕ) → Stands token (front ++ others) (behind ++ others)) → IsSettled tokens (front ++ more) (behind ++ more)
settled_before token tokens front [] [] stands none x others longer l b =
    no_longer_stands token longer (front ++ x ∷ others) x others (stands (x ∷ others)) (subst (λ f. Stands longer (f ++ x ∷ others) []) (append-nil front) l)
settled_before token tokens front [] (y ∷ more) stands none x others longer l b = cc
settled_before token tokens front (y ∷ behind) more stands none x others longer l b = cc

pub token_row_breaks : (p : List ℕ) (at : ℕ) (why : TextWhy) → TokenRow p at why → (more : List ℕ) → Breaks (p ++ more) at why
token_row_breaks p at why r more =
    let some = front_some (sort_of r.token) r.front (stands_shows r.token (r.front ++ []) (r.behind ++ []) (r.stands [])) in
    let read = read_before p r.nest r.start r.front more r.before some in
    token_breaks (p ++ more) r.nest r.start at why r.token
    (record {
      rest = r.front ++ more;
      behind = r.behind ++ more;
      read = read;
      stands = r.stands more;
      settled = settled_before r.token (tokens_of read.tokens) r.front r.behind more r.stands;
    })
    r.in_place r.refused

-- ---- at the end of the input

settled_last : (bytes : List ℕ) (n : Nest) (start : ℕ) (front : List ℕ) (r : IsRead bytes n start front) → IsSettledAt n front
    → IsSettled (tokens_of r.tokens) front []
settled_last bytes n start front r settled none x more longer l b =
    let fails = settled x more longer 0 l in
    let taken = more_taken with_repeats r.tokens n 0 longer (repeating_taken r.tokens n r.taken) b in
    no_result (take with_repeats n 0 longer) fails.0 taken.0 fails.1 taken.1

-- all bytes were read
read_last : (p : List ℕ) (n : Nest) (start : ℕ) (front : List ℕ) → Before p n start front → 0 < length front → IsRead p n start front
read_last p n start front b some =
    subst (λ l. IsRead l n start front) (append-nil p)
    (subst (λ l. IsRead (p ++ []) n start l) (append-nil front) (read_before p n start front [] b some))

pub last_token_breaks : (p : List ℕ) (at : ℕ) (why : TextWhy) → LastTokenRow p at why → Breaks p at why
last_token_breaks p at why r =
    let shows = stands_shows r.token r.front [] r.stands in
    let some = front_some (sort_of r.token) r.front (subst (Shows (sort_of r.token)) (sym (append-nil r.front)) shows) in
    let read = read_last p r.nest r.start r.front r.before some in
    token_breaks p r.nest r.start at why r.token
    (record {
      rest = r.front;
      behind = [];
      read = read;
      stands = r.stands;
      settled = settled_last p r.nest r.start r.front read r.settled;
    })
    r.in_place r.refused

pub last_comment_breaks : (p : List ℕ) (at : ℕ) (why : TextWhy) → LastCommentRow p at why → Breaks p at why
last_comment_breaks p at why r =
    let i = r.comment in
    let read = read_last p r.nest i.start (37 ∷ (encode_utf8_all i.characters ++ r.bytes)) i.before (omega arith) in
    subst (λ w. Breaks p at w) (sym r.reason)
    (inr (record {
      tokens = tokens_of read.tokens;
      at = i.start;
      comment = encode_utf8_all i.characters ++ r.bytes;
      well = goes_well p r.nest i.start (37 ∷ (encode_utf8_all i.characters ++ r.bytes)) read;
      characters = i.characters;
      line = i.line;
      behind = r.bytes;
      parted = refl;
      some = r.some;
      bad = λ c scalar begins. r.bad c scalar begins;
      there = r.there;
    }))
