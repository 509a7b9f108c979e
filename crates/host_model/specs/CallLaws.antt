-- What a host in memory shows is coherent, and goes on as a call says.
use Rattle.std.specs.Prelude.{◌≡◌, ◌≤◌, ◌<◌, ◌++◌, ℕ, true, false, List, [], ◌∷◌, length, Some, None}
use Rattle.std.proofs.Common.{arith, sym, ap, ◌∙◌, refl, subst, inl, inr, ⊎_elim, append-nil}
use Rattle.std.proofs.lemmas.Bool.{leb-true, le-leb, or_parts, and_parts, cases_lt}
use Rattle.std.proofs.lemmas.List.{take_all}
use Rattle.std.proofs.lemmas.Option.{same_Some}
use Rattle.std.proofs.Math.Bool.{and-true}
use Rattle.host_model.specs.Counts.{count_fits}
use Rattle.host_model.specs.Disk.{are_bytes, range, in_doubt, furthest, DiffersIn, IsImage}
use Rattle.host_model.specs.Torn.{length-written_at, DiffersIn-written, DiffersIn-refl, DiffersIn-more, untouched, torn_last, are_bytes-written_at, is_in-false}
use Rattle.host_model.specs.Host.{Left, IsCoherent, IsGrown, Tears, Stays, Says, Reached, Goes}
use Rattle.host_model.specs.Calls.{Call, file_after, said_after, synced_after, unsynced, is_possible, LeftAfter, LeftSince}
use Rattle.host_model.specs.Calls.Call.{Wrote, Synced, Put}
use Rattle.host_model.specs.MemHost.{MemHostState, shown_of, host_after, file_of}

-- the parts of a write that is possible
pub possible_parts : (file : List ℕ) (calls : List Call) (at : ℕ) (bytes : List ℕ) → is_possible file (Wrote at bytes ∷ calls) ≡ true
    → (is_possible file calls ≡ true) × (are_bytes bytes ≡ true) × (at ≤ length (file_after file calls))
possible_parts file calls at bytes p =
    let parts = and_parts _ _ p in
    let rest = and_parts _ _ parts.1 in
    (parts.0, rest.0, leb-true _ _ rest.1)

pub possible_after : (file : List ℕ) (calls : List Call) (at : ℕ) (bytes : List ℕ) → are_bytes bytes ≡ true → at ≤ length (file_after file calls)
    → is_possible file (Wrote at bytes ∷ calls) ≡ is_possible file calls
possible_after file calls at bytes b l = rw (b, le-leb at (length (file_after file calls)) l) (and-true (is_possible file calls))

-- a file is as long as its writes reach
pub file_length : (file : List ℕ) (calls : List Call) → is_possible file calls ≡ true
    → length (file_after file calls) ≡ furthest (length (synced_after file calls)) (unsynced calls)
file_length file [] p = refl
file_length file (Wrote at bytes ∷ calls) p =
    let parts = possible_parts file calls at bytes p in
    omega (arith, length-written_at at bytes (file_after file calls) parts.2, file_length file calls parts.0)
file_length file (Synced ∷ calls) p = refl
file_length file (Put piece ∷ calls) p = file_length file calls p

-- and they leave no gap behind its end
pub no_gap : (file : List ℕ) (calls : List Call) → is_possible file calls ≡ true → (k : ℕ) → k < furthest (length (synced_after file calls)) (unsynced calls)
    → in_doubt (unsynced calls) k ≡ false → k < length (synced_after file calls)
no_gap file [] p k l e = l
no_gap file (Wrote at bytes ∷ calls) p k l e =
    let parts = possible_parts file calls at bytes p in
    let outside = or_parts _ _ e in
    ⊎_elim
    (λ below. no_gap file calls parts.0 k below outside.1)
    (λ above. absurd (⊎_elim
    (λ before. omega (arith, file_length file calls parts.0, parts.2))
    (λ behind. omega arith)
    (is_in-false (range at (length bytes)) k outside.0)))
    (cases_lt k (furthest (length (synced_after file calls)) (unsynced calls)))
no_gap file (Synced ∷ calls) p k l e = l
no_gap file (Put piece ∷ calls) p k l e = no_gap file calls p k l e

-- the file as it reads is one that a stop may leave
pub file_differs : (file : List ℕ) (calls : List Call) → is_possible file calls ≡ true
    → DiffersIn (unsynced calls) (synced_after file calls) (file_after file calls)
file_differs file [] p = DiffersIn-refl [] file
file_differs file (Wrote at bytes ∷ calls) p =
    let parts = possible_parts file calls at bytes p in
    DiffersIn-more (range at (length bytes)) (unsynced calls) _ _ _ (file_differs file calls parts.0)
    (DiffersIn-written at bytes (file_after file calls) parts.2)
file_differs file (Synced ∷ calls) p = DiffersIn-refl [] (file_after file calls)
file_differs file (Put piece ∷ calls) p = file_differs file calls p

pub file_bytes : (file : List ℕ) (calls : List Call) → is_possible file calls ≡ true → are_bytes (file_after file calls) ≡ true
file_bytes file [] p = p
file_bytes file (Wrote at bytes ∷ calls) p =
    let parts = possible_parts file calls at bytes p in
    are_bytes-written_at at bytes (file_after file calls) (file_bytes file calls parts.0) parts.1
file_bytes file (Synced ∷ calls) p = file_bytes file calls p
file_bytes file (Put piece ∷ calls) p = file_bytes file calls p

pub synced_bytes : (file : List ℕ) (calls : List Call) → is_possible file calls ≡ true → are_bytes (synced_after file calls) ≡ true
synced_bytes file [] p = p
synced_bytes file (Wrote at bytes ∷ calls) p = synced_bytes file calls (possible_parts file calls at bytes p).0
synced_bytes file (Synced ∷ calls) p = file_bytes file calls p
synced_bytes file (Put piece ∷ calls) p = synced_bytes file calls p

-- an output that grew by a front of nothing
pub grown_none : (output : List ℕ) → IsGrown [] output output
grown_none output = record { count = 0; fits = omega arith; grown = sym (append-nil output) }

pub grown_by_none : (old new : List ℕ) → IsGrown [] old new → new ≡ old
grown_by_none old new g = g.grown ∙ ap (λ l. old ++ l) (take_all g.count [] (omega arith)) ∙ append-nil old

pub grown_whole : (piece old : List ℕ) → IsGrown piece old (old ++ piece)
grown_whole piece old = record { count = length piece; fits = omega arith; grown = ap (λ l. old ++ l) (sym (take_all (length piece) piece (omega arith))) }

-- what is left now: what a read gives among it
pub left_now : (origin : Left) (calls : List Call) → is_possible origin.image calls ≡ true
    → LeftAfter origin calls None (record { image = file_after origin.image calls; output = said_after origin.output calls })
left_now origin calls p = record {
  possible = p;
  image = record { differs = file_differs origin.image calls p; bytes = file_bytes origin.image calls p };
  output = grown_none (said_after origin.output calls);
}

pub since_bound : (origin : Left) (calls : List Call) (t : ℕ) (c : Left) → LeftSince origin calls t c → t ≤ length calls
since_bound origin [] t c h = h.0
since_bound origin (call ∷ calls) t c h =
    ⊎_elim (λ now. omega (arith, now.0)) (λ before. ⊎_elim (λ within. omega (arith, within.0))
    (λ earlier. omega (arith, since_bound origin calls t c earlier)) before) h

pub since_now : (origin : Left) (calls : List Call) (c : Left) → LeftAfter origin calls None c → LeftSince origin calls (length calls) c
since_now origin [] c h = (omega arith, h)
since_now origin (call ∷ calls) c h = inl (omega arith, h)

pub now_only : (origin : Left) (calls : List Call) (c : Left) → LeftSince origin calls (length calls) c → LeftAfter origin calls None c
now_only origin [] c h = h.1
now_only origin (call ∷ calls) c h =
    ⊎_elim (λ now. now.1) (λ before. absurd (⊎_elim (λ within. omega (arith, within.0))
    (λ earlier. omega (arith, since_bound origin calls _ c earlier)) before)) h

pub since_earlier : (origin : Left) (calls : List Call) (s t : ℕ) (c : Left) → s ≤ t → LeftSince origin calls t c → LeftSince origin calls s c
since_earlier origin [] s t c l h = (omega (arith, h.0), h.1)
since_earlier origin (call ∷ calls) s t c l h =
    ⊎_elim (λ now. inl (omega (arith, now.0), now.1)) (λ before. inr (⊎_elim (λ within. inl (omega (arith, within.0), within.1))
    (λ earlier. inr (since_earlier origin calls s t c l earlier)) before)) h

pub since_bytes : (origin : Left) (calls : List Call) (t : ℕ) (c : Left) → LeftSince origin calls t c → are_bytes c.image ≡ true
since_bytes origin [] t c h = h.1.image.bytes
since_bytes origin (call ∷ calls) t c h =
    ⊎_elim (λ now. now.1.image.bytes) (λ before. ⊎_elim (λ within. within.1.image.bytes) (λ earlier. since_bytes origin calls t c earlier) before) h

pub is_coherent : (h : MemHostState) → IsCoherent (shown_of h)
is_coherent h = record {
  now_left = λ p f o e d. subst (λ x. LeftAfter h.origin h.calls None (record { image = x; output = o })) (same_Some _ _ e)
      (subst (λ y. LeftAfter h.origin h.calls None (record { image = file_after h.origin.image h.calls; output = y })) (same_Some _ _ d)
      (left_now h.origin h.calls p));
  outputs = λ c left o e. grown_by_none _ _ left.output ∙ same_Some _ _ e;
  counts_now = λ c left. since_now h.origin h.calls c left;
  only_now = λ c left. now_only h.origin h.calls c left;
  earlier = λ s t c l left. since_earlier h.origin h.calls s t c l left;
  bytes = λ t c left. since_bytes h.origin h.calls t c left;
  reads_fit = count_fits h.reads;
  disk_faults_fit = count_fits h.disk_faults;
  out_faults_fit = count_fits h.out_faults;
}

-- a write: after it and while it runs

pub write_left : (origin : Left) (calls : List Call) (at : ℕ) (bytes : List ℕ) (c : Left) → is_possible origin.image calls ≡ true
    → at ≤ length (file_after origin.image calls)
    → IsImage (range at (length bytes) ∷ unsynced calls) (synced_after origin.image calls) c.image → IsGrown [] (said_after origin.output calls) c.output
    → Reached (Tears at (length bytes)) (LeftAfter origin calls None) c
write_left origin calls at bytes c p l image output =
    let long = file_length origin.image calls p in
    let apart = torn_last (range at (length bytes)) (unsynced calls) (synced_after origin.image calls) c.image (omega (arith, long))
    (no_gap origin.image calls p) image.differs (synced_bytes origin.image calls p) image.bytes in
    record {
      start = record { image = apart.0; output = c.output };
      was_left = record { possible = p; image = record { differs = apart.1; bytes = apart.3 }; output = output };
      done = record { image = record { differs = apart.2; bytes = image.bytes }; output = refl };
    }

pub write_within : (origin : Left) (calls : List Call) (at : ℕ) (bytes : List ℕ) (c : Left) → Reached (Tears at (length bytes)) (LeftAfter origin calls None) c
    → LeftAfter origin calls (Some (Wrote at bytes)) c
write_within origin calls at bytes c r = record {
  possible = r.was_left.possible;
  image = record { differs = DiffersIn-more _ _ _ _ _ r.was_left.image.differs r.done.image.differs; bytes = r.done.image.bytes };
  output = subst (λ o. IsGrown [] (said_after origin.output calls) o) (sym r.done.output) r.was_left.output;
}

pub write_goes : (h : MemHostState) (at : ℕ) (bytes : List ℕ) → are_bytes bytes ≡ true → at ≤ length (file_of h)
    → Goes (Tears at (length bytes)) (shown_of h) (shown_of (host_after (Wrote at bytes) h))
write_goes h at bytes b l =
    let origin = h.origin in
    let calls = h.calls in
    let after = λ (c : Left) (left : LeftAfter origin (Wrote at bytes ∷ calls) None c).
    write_left origin calls at bytes c (possible_parts origin.image calls at bytes left.possible).0 l left.image left.output in
    let within = λ (c : Left) (left : LeftAfter origin calls (Some (Wrote at bytes)) c).
    write_left origin calls at bytes c left.possible l left.image left.output in
    record {
      tells = possible_after origin.image calls at bytes b l;
      later = omega arith;
      by_one = omega arith;
      after = after;
      during = λ t c le left. ⊎_elim (λ now. inr (after c now.1)) (λ before. ⊎_elim (λ here. inr (within c here.1)) (λ earlier. inl earlier) before) left;
      keeps = λ t c le left. inr (inr left);
      reaches = λ told moved c r. inr (inl (omega arith, write_within origin calls at bytes c r));
      still = λ told same. absurd (omega arith);
    }

-- a sync

pub sync_within : (origin : Left) (calls : List Call) (c : Left) → LeftAfter origin calls (Some Synced) c → LeftAfter origin calls None c
sync_within origin calls c left = record { possible = left.possible; image = left.image; output = left.output }

pub within_sync : (origin : Left) (calls : List Call) (c : Left) → LeftAfter origin calls None c → LeftAfter origin calls (Some Synced) c
within_sync origin calls c left = record { possible = left.possible; image = left.image; output = left.output }

pub sync_left : (origin : Left) (calls : List Call) (c : Left) → LeftAfter origin (Synced ∷ calls) None c → (c.image ≡ file_after origin.image calls)
    × LeftAfter origin calls None c
sync_left origin calls c left =
    let same = untouched _ _ left.image.differs in (
      same,
      record {
        possible = left.possible;
        image = record {
          differs = subst (λ f. DiffersIn (unsynced calls) (synced_after origin.image calls) f) (sym same)
              (file_differs origin.image calls left.possible);
          bytes = left.image.bytes;
        };
        output = left.output;
      },
    )

pub sync_goes : (h : MemHostState) → Goes Stays (shown_of h) (shown_of (host_after Synced h))
sync_goes h =
    let origin = h.origin in
    let calls = h.calls in
    let stays : (c : Left) → LeftAfter origin calls None c
    → Reached Stays (LeftAfter origin calls None) c = λ c left. record { start = c; was_left = left; done = refl } in
    record {
      tells = refl;
      later = omega arith;
      by_one = omega arith;
      after = λ c left. stays c (sync_left origin calls c left).1;
      during = λ t c le left. ⊎_elim (λ now. inr (stays c (sync_left origin calls c now.1).1))
          (λ before. ⊎_elim (λ here. inr (stays c (sync_within origin calls c here.1))) (λ earlier. inl earlier) before) left;
      keeps = λ t c le left. inr (inr left);
      reaches = λ told moved c r. inr (inl (omega arith, within_sync origin calls c (subst (λ d. LeftAfter origin calls None d) (sym r.done) r.was_left)));
      still = λ told same. absurd (omega arith);
    }

-- a piece of output

pub put_left : (origin : Left) (calls : List Call) (piece : List ℕ) (c : Left) → is_possible origin.image calls ≡ true
    → IsImage (unsynced calls) (synced_after origin.image calls) c.image → IsGrown piece (said_after origin.output calls) c.output
    → Reached (Says piece) (LeftAfter origin calls None) c
put_left origin calls piece c p image output = record {
  start = record { image = c.image; output = said_after origin.output calls };
  was_left = record { possible = p; image = image; output = grown_none (said_after origin.output calls) };
  done = record { image = refl; output = output };
}

pub put_within : (origin : Left) (calls : List Call) (piece : List ℕ) (c : Left) → Reached (Says piece) (LeftAfter origin calls None) c
    → LeftAfter origin calls (Some (Put piece)) c
put_within origin calls piece c r = record {
  possible = r.was_left.possible;
  image = subst (λ i. IsImage (unsynced calls) (synced_after origin.image calls) i) (sym r.done.image) r.was_left.image;
  output = subst (λ o. IsGrown piece o c.output) (grown_by_none _ _ r.was_left.output) r.done.output;
}

pub put_goes : (h : MemHostState) (piece : List ℕ) → Goes (Says piece) (shown_of h) (shown_of (host_after (Put piece) h))
put_goes h piece =
    let origin = h.origin in
    let calls = h.calls in
    let after = λ (c : Left) (left : LeftAfter origin (Put piece ∷ calls) None c).
    put_left origin calls piece c left.possible left.image (subst (λ o. IsGrown piece (said_after origin.output calls) o) (sym (grown_by_none _ _ left.output))
    (grown_whole piece (said_after origin.output calls))) in
    let within = λ (c : Left) (left : LeftAfter origin calls (Some (Put piece)) c). put_left origin calls piece c left.possible left.image left.output in
    record {
      tells = refl;
      later = omega arith;
      by_one = omega arith;
      after = after;
      during = λ t c le left. ⊎_elim (λ now. inr (after c now.1)) (λ before. ⊎_elim (λ here. inr (within c here.1)) (λ earlier. inl earlier) before) left;
      keeps = λ t c le left. inr (inr left);
      reaches = λ told moved c r. inr (inl (omega arith, put_within origin calls piece c r));
      still = λ told same. absurd (omega arith);
    }

-- a call that failed, or that only reads

-- where all rests, a call went on that had no effect
