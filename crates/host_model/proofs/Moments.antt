-- The calls up to a stop, as a log keeps them.
use Rattle.std.proofs.Common.{◌≡◌, ◌<◌, ◌≤◌, ◌+◌, ◌-◌, ◌∙◌, ℕ, List, [], ◌∷◌, ◌++◌, map, length, get_or, take, drop, sym, ap, refl, ⊎_elim, min, arith, Some, None, length-append}
use Rattle.std.proofs.lemmas.Bool.{cases_lt, le-ltb, lt-ltb, eq-eqb, ne_eqb}
use Rattle.std.proofs.lemmas.List.{take_more, take-take, drop-take, drop-append-le, take_all, length-take-le, length-map, length-reverse}
use Rattle.host_model.specs.Calls.{Call, file_after, said_after, synced_after, unsynced, ranges_of}
use Rattle.host_model.specs.Calls.Call.{Wrote, Synced, Put}
use Rattle.host_model.specs.Log.{newest_first, call_of, written}
use Rattle.host_model.specs.Restart.{Moment, moment, onto, picked_image, image_at, output_at}
use Rattle.host_model.specs.declared.log.Kept.{Kept}
use Rattle.host_model.specs.declared.log.Kept.TheVariants.{Sync}
use Rattle.host_model.specs.declared.restart.Pick.{Pick}
use Rattle.host_model.specs.declared.restart.Pick.TheVariants.{Old, New, Fill, Mix}
use Rattle.host_model.proofs.Again.{newest_first-append, newest_first-more, newest_first-parts, file_after-append}

-- after all calls
pub moment_all : (n : ℕ) (calls : List Call) → length calls ≡ n → moment n calls ≡ record { made = calls; running = None }
moment_all n [] e = refl
moment_all n (call ∷ calls) e = rw (lt-ltb (length calls) n (omega arith)) refl

-- within a call
pub moment_within : (n : ℕ) (later : List Call) (call : Call) (earlier : List Call) → length earlier ≡ n
    → moment n (later ++ call ∷ earlier) ≡ record { made = earlier; running = Some call }
moment_within n [] call earlier e = rw (le-ltb (length earlier) n (omega arith), eq-eqb n (length earlier) (sym e)) refl
moment_within n (next ∷ later) call earlier e =
    let longer = length-append later (call ∷ earlier) in
    rw (le-ltb (length (later ++ call ∷ earlier)) n (omega (arith, longer)), ne_eqb n (length (later ++ call ∷ earlier)) (λ same. omega (arith, longer)))
    (moment_within n later call earlier e)

written-cons : (call : Call) (calls : List Call) → written (call ∷ calls) ≡ ranges_of (Some call) ++ written calls
written-cons (Wrote at bytes) calls = refl
written-cons Synced calls = refl
written-cons (Put piece) calls = refl

length-newest_first : (kept : List Kept) → length (newest_first kept) ≡ length kept
length-newest_first kept = length-reverse (map call_of kept) ∙ length-map kept call_of

-- a stop within the call that follows the first `at`, or after all: what was made, with the one that goes on, and
-- the ranges in doubt, where `since` calls end with the last sync
pub record IsStop (kept : List Kept) (at end since : ℕ) (m : Moment) : Type 0 where
  pub is : moment at (newest_first kept) ≡ m
  pub made : m.made ≡ newest_first (take at kept)
  pub whole : onto m.running m.made ≡ newest_first (take end kept)
  pub doubt : unsynced (newest_first (take at kept)) ≡ written (newest_first (drop since (take at kept)))
      → ranges_of m.running ++ unsynced m.made ≡ written (newest_first (drop since (take end kept)))

stop_all : (kept : List Kept) (at end since : ℕ) → at ≡ length kept → end ≡ at → IsStop kept at end since (record { made = newest_first kept; running = None })
stop_all kept at end since all last =
    let whole : take at kept ≡ kept = take_all at kept (omega arith) in
    let to_end : take end kept ≡ kept = take_all end kept (omega arith) in
    record {
      is = moment_all at (newest_first kept) (length-newest_first kept ∙ sym all);
      made = ap newest_first (sym whole);
      whole = ap newest_first (sym to_end);
      doubt = λ e. ap unsynced (ap newest_first (sym whole)) ∙ e ∙ ap (λ ks. written (newest_first (drop since ks))) (whole ∙ sym to_end);
    }

stop_within : (kept : List Kept) (at end since : ℕ) (d : Kept) → at < length kept → end ≡ at + 1 → since ≤ at
    → IsStop kept at end since (record { made = newest_first (take at kept); running = Some (call_of (get_or kept at d)) })
stop_within kept at end since d l last within =
    let x : Kept = get_or kept at d in
    let more = newest_first-more kept at d l in
    let whole : newest_first kept ≡ newest_first (drop (at + 1) kept) ++ call_of x ∷ newest_first (take at kept) = newest_first-parts (at + 1) kept
    ∙ ap (λ cs. newest_first (drop (at + 1) kept) ++ cs) more in
    let short = length-take-le at kept (omega arith) in
    let rest : drop since (take end kept) ≡ drop since (take at kept) ++ x ∷ [] = ap (λ n. drop since (take n kept)) last
    ∙ ap (drop since) (take_more kept at d l) ∙ drop-append-le since (take at kept) (x ∷ []) (omega (arith, short)) in
    record {
      is = ap (moment at) whole
          ∙ moment_within at (newest_first (drop (at + 1) kept)) (call_of x) (newest_first (take at kept)) (length-newest_first (take at kept) ∙ short);
      made = refl;
      whole = sym more ∙ ap (λ n. newest_first (take n kept)) (sym last);
      doubt = λ e. ap (λ rs. ranges_of (Some (call_of x)) ++ rs) e ∙ sym (written-cons (call_of x) (newest_first (drop since (take at kept))))
          ∙ ap written (sym (newest_first-append (drop since (take at kept)) (x ∷ []))) ∙ ap (λ ks. written (newest_first ks)) (sym rest);
    }

pub stop_at : (kept : List Kept) (at end since : ℕ) → at ≤ length kept → end ≡ min (at + 1) (length kept) → since ≤ at → (m : Moment)
    × IsStop kept at end since m
stop_at kept at end since l last within =
    ⊎_elim
    (λ below. (
      record { made = newest_first (take at kept); running = Some (call_of (get_or kept at Sync)) },
      stop_within kept at end since Sync below
          (omega arith) within,
    ))
    (λ above. (record { made = newest_first kept; running = None }, stop_all kept at end since (omega arith) (omega arith)))
    (cases_lt at (length kept))

-- what was picked since the last sync is the image of the moment
pub image_is : (pick : Pick) (first synced : List ℕ) (kept : List Kept) (at end since : ℕ) → at ≤ length kept → end ≡ min (at + 1) (length kept) → since ≤ at
    → unsynced (newest_first (take at kept)) ≡ written (newest_first (drop since (take at kept)))
    → synced_after first (newest_first (take at kept)) ≡ file_after first (newest_first (take since (take at kept)))
    → synced ≡ file_after first (newest_first (take since kept))
    → picked_image pick (written (newest_first (take (end - since) (drop since kept)))) synced
    (file_after synced (newest_first (take (end - since) (drop since kept)))) ≡ image_at pick first (moment at (newest_first kept))
image_is pick first synced kept at end since l last within doubt last_sync is =
    let stop = stop_at kept at end since l last within in
    let m : Moment = stop.0 in
    let s = stop.1 in
    let part : drop since (take end kept) ≡ take (end - since) (drop since kept) = ap (λ n. drop since (take n kept)) (omega arith)
    ∙ drop-take since (end - since) kept in
    let ranges : written (newest_first (take (end - since) (drop since kept))) ≡ ranges_of m.running ++ unsynced m.made = ap (λ ks. written (newest_first ks))
    (sym part) ∙ sym (s.doubt doubt) in
    let base : synced ≡ synced_after first m.made = is ∙ ap (λ ks. file_after first (newest_first ks)) (sym (take-take since at kept within)) ∙ sym last_sync
    ∙ ap (synced_after first) (sym s.made) in
    let front : take since (take end kept) ≡ take since kept = take-take since end kept (omega arith) in
    let file : file_after synced (newest_first (take (end - since) (drop since kept))) ≡ file_after first (onto m.running m.made) =
    ap (λ f. file_after f (newest_first (take (end - since) (drop since kept)))) (is ∙ ap (λ ks. file_after first (newest_first ks)) (sym front))
    ∙ ap (λ ks. file_after (file_after first (newest_first (take since (take end kept)))) (newest_first ks)) (sym part)
    ∙ sym (file_after-append first (newest_first (drop since (take end kept))) (newest_first (take since (take end kept))))
    ∙ ap (file_after first) (sym (newest_first-parts since (take end kept))) ∙ ap (file_after first) (sym s.whole) in
    ap (λ rs. picked_image pick rs synced (file_after synced (newest_first (take (end - since) (drop since kept))))) ranges
    ∙ ap (λ b. picked_image pick (ranges_of m.running ++ unsynced m.made) b (file_after synced (newest_first (take (end - since) (drop since kept))))) base
    ∙ ap (λ f. picked_image pick (ranges_of m.running ++ unsynced m.made) (synced_after first m.made) f) file
    ∙ ap (λ n. image_at pick first n) (sym s.is)

-- the output of the moment

output_but_old : (pick : Pick) (first : List ℕ) (m : Moment) → (pick ≡ Old → ⊥) → said_after first (onto m.running m.made) ≡ output_at pick first m
output_but_old Old first m h = absurd (h refl)
output_but_old New first m h = refl
output_but_old (Fill byte) first m h = refl
output_but_old (Mix number) first m h = refl

pub output_old : (first : List ℕ) (kept : List Kept) (at : ℕ) → at ≤ length kept
    → said_after first (newest_first (take at kept)) ≡ output_at Old first (moment at (newest_first kept))
output_old first kept at l =
    let stop = stop_at kept at (min (at + 1) (length kept)) 0 l refl (omega arith) in
    ap (said_after first) (sym stop.1.made) ∙ ap (λ m. said_after first m.made) (sym stop.1.is)

pub output_whole : (pick : Pick) (first : List ℕ) (kept : List Kept) (at end : ℕ) → at ≤ length kept → end ≡ min (at + 1) (length kept) → (pick ≡ Old → ⊥)
    → said_after first (newest_first (take end kept)) ≡ output_at pick first (moment at (newest_first kept))
output_whole pick first kept at end l last not_old =
    let stop = stop_at kept at end 0 l last (omega arith) in
    ap (said_after first) (sym stop.1.whole) ∙ ap (λ m. said_after first (onto m.running m.made)) (sym stop.1.is)
    ∙ output_but_old pick first (moment at (newest_first kept)) not_old
