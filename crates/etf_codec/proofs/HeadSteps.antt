-- What stands behind a tag, by the number of its parts.
use Rattle.std.proofs.Common.{◌≡◌, ℕ, zero, suc, ◌-◌, ◌<◌, ◌≤◌, refl, false, ◌==◌, List, [], ◌++◌, Result, Ok, Err, ap, ◌∙◌, sym, arith, append_assoc}
use Rattle.std.proofs.Common.{length-append}
use Rattle.std.proofs.lemmas.Bool.Decides.{nat_tests}
use Rattle.std.specs.Prelude.{◌⊎◌, ◌≢◌}
use Rattle.std.specs.Result.{IsErrAnd}
use mathlib.Core.Logic.{inl, inr}
use Rattle.dets_term.specs.TermValue.{TermValue, integer, tuple, nil, chain, map_of}
use Rattle.etf_model.specs.declared.fault.EtfFault.{EtfFault}
use Rattle.etf_model.specs.declared.fault.EtfFault.TheVariants.{Memory}
use Rattle.etf_model.specs.declared.tags.TheConstants.{STRING, LIST}
use Rattle.etf_model.specs.Format.{Format, Position, byte, times, followed, changed, either}
use Rattle.etf_model.specs.Spelling.{number, count, magnitude_after, big_integer, tuple_of, list_of, map_format, no_tail, part_at, tail_at, pairs_after}
use Rattle.etf_model.specs.Layout.{signed, limit}
use Rattle.etf_model.specs.Exactness.{byte-exact}
use Rattle.etf_model.specs.SpellingExact.{number-exact, count-exact}
use Rattle.etf_codec.specs.declared.frame.Frame.TheVariants.{Element, Item, Key}
use Rattle.etf_codec.specs.declared.head.Head.{Head}
use Rattle.etf_codec.specs.declared.head.Head.TheVariants.{Whole, Open, Number}
use Rattle.etf_codec.specs.BigIntegers.{integer_read}
use Rattle.etf_codec.specs.GoesOn.{GoesOn}
use Rattle.etf_codec.specs.Heads.{parts_read, HeadReads, HeadFits}
use Rattle.etf_codec.proofs.Bytes.{go_on_ok}
use Rattle.etf_codec.proofs.Onward.{goes_on_as, whatever_follows}

pub tuple_begins : (levels size start n : ℕ) (position next : Position) (ts : List TermValue) → (count levels size).read start position ≡ Ok (n, next) → 0 < n
    → ts ≡ []
    → (tuple_of (part_at levels) levels size).read start position ≡ parts_read (Element (n - 1) ts) levels start next
tuple_begins levels size start n position next ts e h none =
    let more : n ≡ suc (n - 1) = omega arith in
    go_on_ok _ _ _ _ e ∙ ap (λ m. (changed (times m (part_at levels)) (λ ts. tuple (chain ts nil))).read start next) more
    ∙ ap (λ us. parts_read (Element (n - 1) us) levels start next) (sym none)

pub list_begins : (levels start n : ℕ) (position next : Position) (ts : List TermValue) → (count levels 4).read start position ≡ Ok (n, next) → 0 < n → ts ≡ []
    → (list_of (part_at levels) (tail_at levels) levels).read start position ≡ parts_read (Item (n - 1) ts) levels start next
list_begins levels start n position next ts e h none =
    let some : (n == 0) ≡ false = grind (arith, nat_tests) in
    let more : n ≡ suc (n - 1) = omega arith in
    go_on_ok _ _ _ _ e
    ∙ ap (λ b. (followed (times n (part_at levels)) (λ ts. changed (either b no_tail (tail_at levels)) (λ end. chain ts end))).read start next) some
    ∙ ap (λ m. (followed (times m (part_at levels)) (λ ts. changed (tail_at levels) (λ end. chain ts end))).read start next) more
    ∙ ap (λ us. parts_read (Item (n - 1) us) levels start next) (sym none)

pub map_begins : (levels start n : ℕ) (position next : Position) (ps : List (TermValue × TermValue)) → (count levels 4).read start position ≡ Ok (n, next)
    → 0 < n → ps ≡ []
    → (map_format (part_at levels) levels).read start position ≡ parts_read (Key (n - 1) ps) levels start next
map_begins levels start n position next ps e h none =
    let more : n ≡ suc (n - 1) = omega arith in
    go_on_ok _ _ _ _ e ∙ ap (λ m. (changed (pairs_after (part_at levels) [] m) map_of).read start next) more
    ∙ ap (λ qs. parts_read (Key (n - 1) qs) levels start next) (sym none)

-- ---- whatever follows

pub tuple_opens : (levels size start n : ℕ) (position next : Position) (ts : List TermValue) → (count levels size).read start position ≡ Ok (n, next) → 0 < n
    → ts ≡ []
    → GoesOn ((tuple_of (part_at levels) levels size).read start) (parts_read (Element (n - 1) ts) levels start) position next
tuple_opens levels size start n position next ts e h none =
    goes_on_as ((count levels size).read start) (λ later. Ok (n, later)) ((tuple_of (part_at levels) levels size).read start)
    (parts_read (Element (n - 1) ts) levels start) position next
    (whatever_follows (count levels size) (count-exact levels size) start position next n e)
    (λ here later same. tuple_begins levels size start n (record { offset = position.offset; left = here })
    (record { offset = next.offset; left = later }) ts same h none)

pub list_opens : (levels start n : ℕ) (position next : Position) (ts : List TermValue) → (count levels 4).read start position ≡ Ok (n, next) → 0 < n → ts ≡ []
    → GoesOn ((list_of (part_at levels) (tail_at levels) levels).read start) (parts_read (Item (n - 1) ts) levels start) position next
list_opens levels start n position next ts e h none =
    goes_on_as ((count levels 4).read start) (λ later. Ok (n, later)) ((list_of (part_at levels) (tail_at levels) levels).read start)
    (parts_read (Item (n - 1) ts) levels start) position next
    (whatever_follows (count levels 4) (count-exact levels 4) start position next n e)
    (λ here later same. list_begins levels start n (record { offset = position.offset; left = here })
    (record { offset = next.offset; left = later }) ts same h none)

pub map_opens : (levels start n : ℕ) (position next : Position) (ps : List (TermValue × TermValue)) → (count levels 4).read start position ≡ Ok (n, next)
    → 0 < n → ps ≡ []
    → GoesOn ((map_format (part_at levels) levels).read start) (parts_read (Key (n - 1) ps) levels start) position next
map_opens levels start n position next ps e h none =
    goes_on_as ((count levels 4).read start) (λ later. Ok (n, later)) ((map_format (part_at levels) levels).read start)
    (parts_read (Key (n - 1) ps) levels start) position next
    (whatever_follows (count levels 4) (count-exact levels 4) start position next n e)
    (λ here later same. map_begins levels start n (record { offset = position.offset; left = here })
    (record { offset = next.offset; left = later }) ps same h none)

-- the magnitude of a big integer, behind its length and its sign
integer_begins : (size start count sign : ℕ) (position between next : Position) → (number size).read start position ≡ Ok (count, between)
    → byte.read start between ≡ Ok (sign, next)
    → (big_integer size).read start position ≡ integer_read (record { start = start; sign = sign; length = count; index = 0; magnitude = 0 }) next
integer_begins size start count sign position between next e f =
    go_on_ok _ _ _ _ e ∙ go_on_ok _ _ _ _ f
    ∙ ap (λ n. (changed (magnitude_after (limit sign) 1 0 n) (λ m. integer (signed sign m))).read start next) (let all : count ≡ count - 0 = omega arith in all)

pub integer_opens : (size start count sign : ℕ) (position between next : Position) → (number size).read start position ≡ Ok (count, between)
    → byte.read start between ≡ Ok (sign, next)
    → GoesOn ((big_integer size).read start) (integer_read (record { start = start; sign = sign; length = count; index = 0; magnitude = 0 })) position next
integer_opens size start count sign position between next e f =
    let first = whatever_follows (number size) (number-exact size) start position between count e in
    let second = whatever_follows byte byte-exact start between next sign f in
    record {
      front = first.front ++ second.front;
      holds = λ more.
          ap (λ l. (big_integer size).read start (record { offset = position.offset; left = l })) (append_assoc first.front second.front more)
          ∙ integer_begins size start count sign (record { offset = position.offset; left = first.front ++ (second.front ++ more) })
          (record { offset = between.offset; left = second.front ++ more }) (record { offset = next.offset; left = more })
          (first.holds (second.front ++ more)) (second.holds more);
      bytes = first.bytes ∙ ap (λ l. first.front ++ l) second.bytes ∙ sym (append_assoc first.front second.front next.left);
      offset = omega (arith, first.offset, second.offset, length-append first.front second.front);
    }

-- a head of an equal format
pub head_same : (F G : Format TermValue) (levels start : ℕ) (before behind : Position) (answer : Result Head EtfFault)
    → ((position : Position) → G.read start position ≡ F.read start position) → HeadReads F levels start before behind answer
    → HeadReads G levels start before behind answer
head_same F G levels start before behind (Ok (Whole t)) e h = e before ∙ h
head_same F G levels start before behind (Ok (Open frame)) e h =
    goes_on_as (F.read start) (parts_read frame levels start) (G.read start) (parts_read frame levels start) before behind h
    (λ here later same. e (record { offset = before.offset; left = here }) ∙ same)
head_same F G levels start before behind (Ok (Number b)) e h = (
  h.0,
  goes_on_as (F.read start) (integer_read b) (G.read start) (integer_read b) before behind h.1
      (λ here later same. e (record { offset = before.offset; left = here }) ∙ same),
)
head_same F G levels start before behind (Err fault) e (inl h) = inl h
head_same F G levels start before behind (Err fault) e (inr h) = inr (e before ∙ h)

-- the fault of what it reads
pub head_fault : (F : Format TermValue) (levels start : ℕ) (before behind : Position) (answer : Result Head EtfFault) (fault : EtfFault)
    → IsErrAnd answer (λ y. y ≡ fault) → (fault ≡ Memory) ⊎ (F.read start before ≡ Err fault) → HeadReads F levels start before behind answer
head_fault F levels start before behind (Ok head) fault h e = absurd h
head_fault F levels start before behind (Err y) fault h (inl e) = inl (h ∙ e)
head_fault F levels start before behind (Err y) fault h (inr e) = inr (e ∙ ap Err (sym h))

-- ---- limits

-- under another tag that begins no list
pub fits_as : (tag other levels : ℕ) (answer : Result Head EtfFault) → tag ≢ LIST → tag ≢ STRING → HeadFits tag levels answer → HeadFits other levels answer
fits_as tag other levels (Ok (Whole t)) n m h = (h.0, λ x y. h.1 m n)
fits_as tag other levels (Ok (Open frame)) n m h = (h.0, h.1, λ x. h.2 n)
fits_as tag other levels (Ok (Number b)) n m h = h
fits_as tag other levels (Err fault) n m h = tt

-- room for a part where there is one
pub room : (levels n : ℕ) → (levels ≡ 0 → n ≡ 0) → 0 < n → 1 ≤ levels
room zero n h p = absurd (omega (arith, h refl))
room (suc levels) n h p = omega arith
