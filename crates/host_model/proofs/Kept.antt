-- The calls that a log keeps, as contracts see them.
use Rattle.std.proofs.Common.{◌≡◌, ◌≤◌, ◌∙◌, ℕ, true, List, [], ◌∷◌, ◌++◌, map, reverse, length, get_or, sym, ap, subst, arith, Fits, w8}
use Rattle.std.proofs.lemmas.List.{map-append, reverse-append}
use Rattle.std.proofs.lemmas.Bool.{and_from, le-leb}
use Rattle.host_model.specs.Disk.{are_bytes, written_at}
use Rattle.host_model.specs.Torn.{are_bytes-from}
use Rattle.host_model.specs.Calls.{file_after, said_after, is_possible}
use Rattle.host_model.specs.Calls.Call.{Wrote}
use Rattle.host_model.specs.Log.{newest_first, call_of, IsKept}
use Rattle.host_model.specs.declared.log.Kept.{Kept}

-- the call that was kept last stands first
pub newest_first-push : (kept : List Kept) (last : Kept) → newest_first (kept ++ last ∷ []) ≡ call_of last ∷ newest_first kept
newest_first-push kept last = ap reverse (map-append call_of kept (last ∷ [])) ∙ reverse-append (map call_of kept) (call_of last ∷ [])

-- after a write that was kept
pub IsKept-write : (first first_said : List ℕ) (kept new : List Kept) (last : Kept) (at : ℕ) (bytes file now said : List ℕ)
    → IsKept first first_said kept file said
    → call_of last ≡ Wrote at bytes → new ≡ kept ++ last ∷ [] → now ≡ written_at at bytes file → are_bytes bytes ≡ true → at ≤ length file
    → IsKept first first_said new now said
IsKept-write first first_said kept new last at bytes file now said k is_last is_new is_now b l =
    let calls : newest_first new ≡ Wrote at bytes ∷ newest_first kept = ap newest_first is_new ∙ newest_first-push kept last
    ∙ ap (λ c. c ∷ newest_first kept) is_last in
    record {
      reads = is_now ∙ ap (λ f. written_at at bytes f) k.reads ∙ sym (ap (λ cs. file_after first cs) calls);
      output = k.output ∙ sym (ap (λ cs. said_after first_said cs) calls);
      possible = ap (λ cs. is_possible first cs) calls ∙ and_from _ _ k.possible (and_from _ _ b (le-leb _ _ (subst (λ f. at ≤ length f) k.reads l)));
    }

-- what is read of a slice of bytes
pub are_bytes-fit : (xs : List ℕ) → ((i : ℕ) → Fits w8 (get_or xs i 0)) → are_bytes xs ≡ true
are_bytes-fit xs fit = are_bytes-from xs (λ k l. omega (arith, fit k))
