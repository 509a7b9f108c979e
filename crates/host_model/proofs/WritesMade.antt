-- Writes that are made one by one.
use Rattle.std.proofs.Common.{◌≡◌, ◌≤◌, ◌<◌, ◌+◌, ◌∙◌, ℕ, List, [], length, get_or, take, Option, Some, None, option_map, slice_get, refl, sym, ap, subst}
use Rattle.std.proofs.lemmas.Option.{slice_get-get_or, same_Some}
use Rattle.host_model.specs.Disk.{range, DiffersIn, written_at, WhereTold}
use Rattle.host_model.specs.Host.{Shown}
use Rattle.host_model.specs.Tearing.{Tearing, IsWithin, told_before}
use Rattle.host_model.specs.Writes.{Write, ranges_of, with_writes, BeginInside}
use Rattle.host_model.specs.WritesLaws.{range_within, begins_inside, with_writes-more}

-- the i-th of the writes has this place and these bytes
pub record IsWrite (writes : List Write) (i place : ℕ) (piece : List ℕ) : Type 0 where
  pub there : i < length writes
  pub begins : option_map (λ (w : Write). w.at) (slice_get writes i) ≡ Some place
  pub has : option_map (λ (w : Write). w.bytes) (slice_get writes i) ≡ Some piece

no_write : Write
no_write = record { at = 0; bytes = [] }

nth : List Write → ℕ → Write
nth writes i = get_or writes i no_write

place_is : (writes : List Write) (i place : ℕ) (piece : List ℕ) → IsWrite writes i place piece → (nth writes i).at ≡ place
unfolding nth
place_is writes i place piece w = same_Some _ _ (sym (ap (option_map (λ (w : Write). w.at)) (slice_get-get_or writes i no_write w.there)) ∙ w.begins)

piece_is : (writes : List Write) (i place : ℕ) (piece : List ℕ) → IsWrite writes i place piece → (nth writes i).bytes ≡ piece
unfolding nth
piece_is writes i place piece w = same_Some _ _ (sym (ap (option_map (λ (w : Write). w.bytes)) (slice_get-get_or writes i no_write w.there)) ∙ w.has)

-- its range is within those of all
pub is_within : (writes : List Write) (i place : ℕ) (piece : List ℕ) → IsWrite writes i place piece → IsWithin (range place (length piece)) (ranges_of writes)
unfolding nth
is_within writes i place piece w =
    subst (λ p. IsWithin (range p (length piece)) (ranges_of writes)) (place_is writes i place piece w)
    (subst (λ b. IsWithin (range (nth writes i).at (length b)) (ranges_of writes)) (piece_is writes i place piece w) (range_within writes i no_write w.there))

-- and it begins inside the file that those before it left
pub may_write : (writes : List Write) (i place : ℕ) (piece : List ℕ) (old now : Shown) → IsWrite writes i place piece → WhereTold old.file (BeginInside writes)
    → Tearing (ranges_of writes) old now → now.file ≡ option_map (with_writes (take i writes)) old.file → WhereTold now.file (λ f. place ≤ length f)
unfolding nth
may_write writes i place piece old now w inside t written x told =
    let b = told_before (DiffersIn (ranges_of writes)) old.file now.file x t.file told in
    let same : with_writes (take i writes) b.0 ≡ x = same_Some _ _ (sym (ap (option_map (with_writes (take i writes))) b.1) ∙ sym written ∙ told) in
    let begins = begins_inside writes b.0 i no_write (inside b.0 b.1) w.there in
    subst (λ p. p ≤ length x) (place_is writes i place piece w) (subst (λ f. (nth writes i).at ≤ length f) same begins)

-- one write more was made
pub written_more : (writes : List Write) (i place : ℕ) (piece : List ℕ) (old mid new : Option (List ℕ)) → IsWrite writes i place piece
    → mid ≡ option_map (with_writes (take i writes)) old → new ≡ option_map (written_at place piece) mid
    → new ≡ option_map (with_writes (take (i + 1) writes)) old
unfolding nth
written_more writes i place piece None mid new w p q = q ∙ ap (option_map (written_at place piece)) p
written_more writes i place piece (Some f) mid new w p q =
    let so_far = with_writes (take i writes) f in
    q ∙ ap (option_map (written_at place piece)) p
    ∙ ap (λ n. Some (written_at n piece so_far)) (sym (place_is writes i place piece w))
    ∙ ap (λ b. Some (written_at (nth writes i).at b so_far)) (sym (piece_is writes i place piece w))
    ∙ ap Some (sym (with_writes-more writes f i no_write w.there))

pub none_written : (o : Option (List ℕ)) → o ≡ option_map (with_writes []) o
none_written None = refl
none_written (Some f) = refl
