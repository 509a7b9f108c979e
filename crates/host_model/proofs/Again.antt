-- The calls that a log kept, a part at a time.
use Rattle.std.proofs.Common.{◌≡◌, ◌<◌, ◌≤◌, ◌+◌, ◌∙◌, ℕ, true, List, [], ◌∷◌, ◌++◌, map, reverse, length, get_or, take, drop, sym, ap, refl, subst}
use Rattle.std.proofs.lemmas.List.{map-append, reverse-append, take_more, take-append-drop}
use Rattle.std.proofs.lemmas.Bool.{and_from, and_parts, le-leb, leb-true}
use Rattle.host_model.specs.Disk.{written_at}
use Rattle.host_model.specs.Calls.{Call, file_after, is_possible}
use Rattle.host_model.specs.Calls.Call.{Wrote, Synced, Put}
use Rattle.host_model.specs.CallLaws.{file_bytes}
use Rattle.host_model.specs.Log.{newest_first, call_of}
use Rattle.host_model.specs.declared.log.Kept.{Kept}

pub newest_first-append : (xs ys : List Kept) → newest_first (xs ++ ys) ≡ newest_first ys ++ newest_first xs
newest_first-append xs ys = ap reverse (map-append call_of xs ys) ∙ reverse-append (map call_of xs) (map call_of ys)

pub newest_first-parts : (i : ℕ) (xs : List Kept) → newest_first xs ≡ newest_first (drop i xs) ++ newest_first (take i xs)
newest_first-parts i xs = ap newest_first (sym (take-append-drop i xs)) ∙ newest_first-append (take i xs) (drop i xs)

pub newest_first-more : (xs : List Kept) (i : ℕ) (d : Kept) → i < length xs
    → newest_first (take (i + 1) xs) ≡ call_of (get_or xs i d) ∷ newest_first (take i xs)
newest_first-more xs i d l = ap newest_first (take_more xs i d l) ∙ newest_first-append (take i xs) (get_or xs i d ∷ [])

pub file_after-append : (file : List ℕ) (later earlier : List Call) → file_after file (later ++ earlier) ≡ file_after (file_after file earlier) later
file_after-append file [] earlier = refl
file_after-append file (Wrote at bytes ∷ later) earlier = ap (λ f. written_at at bytes f) (file_after-append file later earlier)
file_after-append file (Synced ∷ later) earlier = file_after-append file later earlier
file_after-append file (Put piece ∷ later) earlier = file_after-append file later earlier

pub possible_earlier : (file : List ℕ) (later earlier : List Call) → is_possible file (later ++ earlier) ≡ true → is_possible file earlier ≡ true
possible_earlier file [] earlier p = p
possible_earlier file (Wrote at bytes ∷ later) earlier p = possible_earlier file later earlier (and_parts _ _ p).0
possible_earlier file (Synced ∷ later) earlier p = possible_earlier file later earlier p
possible_earlier file (Put piece ∷ later) earlier p = possible_earlier file later earlier p

pub possible_later : (file : List ℕ) (later earlier : List Call) → is_possible file (later ++ earlier) ≡ true
    → is_possible (file_after file earlier) later ≡ true
possible_later file [] earlier p = file_bytes file earlier p
possible_later file (Wrote at bytes ∷ later) earlier p =
    let parts = and_parts _ _ p in
    let rest = and_parts _ _ parts.1 in
    let fits : at ≤ length (file_after (file_after file earlier) later) = subst (λ f. at ≤ length f) (file_after-append file later earlier)
    (leb-true _ _ rest.1) in
    and_from _ _ (possible_later file later earlier parts.0) (and_from _ _ rest.0 (le-leb _ _ fits))
possible_later file (Synced ∷ later) earlier p = possible_later file later earlier p
possible_later file (Put piece ∷ later) earlier p = possible_later file later earlier p

-- what was possible is so up to each call, and from each call on

pub possible_take : (file : List ℕ) (kept : List Kept) (i : ℕ) → is_possible file (newest_first kept) ≡ true
    → is_possible file (newest_first (take i kept)) ≡ true
possible_take file kept i p = possible_earlier file (newest_first (drop i kept)) (newest_first (take i kept))
    (sym (ap (λ cs. is_possible file cs) (newest_first-parts i kept)) ∙ p)

pub possible_drop : (file : List ℕ) (kept : List Kept) (i : ℕ) → is_possible file (newest_first kept) ≡ true
    → is_possible (file_after file (newest_first (take i kept))) (newest_first (drop i kept)) ≡ true
possible_drop file kept i p = possible_later file (newest_first (drop i kept)) (newest_first (take i kept))
    (sym (ap (λ cs. is_possible file cs) (newest_first-parts i kept)) ∙ p)

pub possible_at : (file : List ℕ) (kept : List Kept) (i : ℕ) (d : Kept) (at : ℕ) (bytes : List ℕ) → i < length kept
    → call_of (get_or kept i d) ≡ Wrote at bytes → is_possible file (newest_first kept) ≡ true → at ≤ length (file_after file (newest_first (take i kept)))
possible_at file kept i d at bytes l e p =
    let more = newest_first-more kept i d l ∙ ap (λ c. c ∷ newest_first (take i kept)) e in
    let here = sym (ap (λ cs. is_possible file cs) more) ∙ possible_take file kept (i + 1) p in
    leb-true _ _ (and_parts _ _ (and_parts _ _ here).1).1
