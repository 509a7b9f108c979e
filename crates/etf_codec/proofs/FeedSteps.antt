-- What a feed of spellings keeps where it reads on.
use Rattle.std.proofs.Common.{◌≡◌, ◌≢◌, ◌⊎◌, ℕ, ◌+◌, ◌-◌, ◌<◌, ◌≤◌, ◌^◌, true, List, [], ◌++◌, length, take, drop, min, None, Result, Ok, Err}
use Rattle.std.proofs.Common.{refl, ap, sym, ◌∙◌, subst, inl, inr, arith, append_assoc, length-append}
use Rattle.std.proofs.lemmas.List.{take_all, take_min, take_at, take-append-le, take-append-drop, length-take, length-take-le}
use Rattle.std.proofs.Math.Seq.{take-add}
use Rattle.dets_term.specs.TermValue.{TermValue}
use Rattle.feed_model.specs.Meaning.{breaks, no_term}
use Rattle.etf_model.specs.declared.fault.EtfFault.{EtfFault}
use Rattle.etf_model.specs.declared.fault.EtfFault.TheVariants.{Short, LongTerm, Memory}
use Rattle.feed_model.specs.declared.fed.Fed.{Fed}
use Rattle.etf_model.specs.Format.{Position}
use Rattle.etf_model.specs.Exact.{Between}
use Rattle.etf_model.specs.Answers.{IsFront, Answers}
use Rattle.etf_model.specs.Spelling.{spelling, IsPart}
use Rattle.etf_model.specs.SpellingFeed.{SpellingFeed, longest, front_of, spellings}
use Rattle.feed_model.specs.Feed.{total, failed, Holds, Gives, gives_behind, IsNext}
use Rattle.feed_model.specs.Kept.{next_keeps}
use Rattle.etf_model.specs.SteadySpellings.{steady-spellings}
use Rattle.etf_model.specs.SpellingExact.{spelling-exact, spelling_lacks_long}
use Rattle.etf_codec.specs.declared.term_reader.TermReader.{TermReader}
use Rattle.etf_codec.specs.declared.feed.TermFeed.TheInside.{Inside}
use Rattle.etf_codec.specs.GoesOn.{GoesOn}
use Rattle.etf_codec.specs.TermReader.{IsFresh, IsReader, IsNest, StageFits, reads_on}
use Rattle.etf_codec.specs.FeedInside.{IsInOrder}
use Rattle.etf_codec.proofs.Answering.{front_read, fault_read}
use Rattle.etf_codec.proofs.Decodings.{reads_fresh}

-- ---- where nothing was read

fresh_reader : (r : TermReader) → IsFresh r → IsReader r
fresh_reader r fresh = (
  subst (λ begun. IsNest begun) (sym fresh.1) (omega arith, tt),
  subst (λ stage. StageFits stage r.begun.items) (sym fresh.0) fresh.1,
)

pub fresh_order : (a : Inside) → IsFresh a.reader → a.read ≡ 0 → a.offset + length a.left.items < 2 ^ 63 → IsInOrder a
fresh_order a fresh none short = record {
  there = omega arith;
  few = omega arith;
  short = short;
  reader = fresh_reader a.reader fresh;
  reached = λ more.
      let here : a.offset ≡ a.offset + a.read = omega arith in
      ap (λ (n : ℕ). spelling.read a.offset (record { offset = a.offset; left = take n a.left.items ++ more })) none
      ∙ ap (λ (at : ℕ). spelling.read at (record { offset = at; left = more })) here
      ∙ sym (reads_fresh a.reader (record { offset = a.offset + a.read; left = more }) fresh);
}

-- ---- where bytes are read behind those that were read

-- the front of what is left, in two parts
front_parts : (items : List ℕ) (read : ℕ) → read ≤ length items → read ≤ longest
    → take longest items ≡ take read items ++ take (min (length items) longest - read) (drop read items)
front_parts items read there few =
    let same : min longest (length items) ≡ read + (min (length items) longest - read) = omega arith in
    sym (take_min longest items) ∙ ap (λ n. take n items) same ∙ take-add read (min (length items) longest - read) items

-- where reading goes on
abbrev pub behind_read : Inside → Position
behind_read a = record { offset = a.offset + a.read; left = take (min (length a.left.items) longest - a.read) (drop a.read a.left.items) }

pub placed : (a : Inside) (before : Position) (read end size : ℕ) (held : List ℕ)
    → before ≡ record { offset = a.offset + read; left = take (end - read) (drop read held) }
    → read ≡ a.read → end ≡ min size longest → size ≡ length a.left.items → held ≡ a.left.items → before ≡ behind_read a
placed a before read end size held is r e s h =
    is
    ∙ ap (λ (n : ℕ). record { offset = a.offset + n; left = take (end - n) (drop n held) }) r
    ∙ ap (λ (n : ℕ). record { offset = a.offset + a.read; left = take (n - a.read) (drop a.read held) }) (e ∙ ap (λ (n : ℕ). min n longest) s)
    ∙ ap (λ (l : List ℕ). record { offset = a.offset + a.read; left = take (min (length a.left.items) longest - a.read) (drop a.read l) }) h

module _ (a : Inside) (order : IsInOrder a) (reader : TermReader) (same : reader ≡ a.reader) (before : Position) (position : before ≡ behind_read a) where
  read_to : before.offset ≡ a.offset + a.read
  read_to = ap (λ (p : Position). p.offset) position

  reached : (more : List ℕ) → spelling.read a.offset (record { offset = a.offset; left = take a.read a.left.items ++ more })
      ≡ reads_on reader (record { offset = before.offset; left = more })
  reached more =
      order.reached more
      ∙ ap (λ (r : TermReader). reads_on r (record { offset = a.offset + a.read; left = more })) (sym same)
      ∙ ap (λ (o : ℕ). reads_on reader (record { offset = o; left = more })) (sym read_to)

  -- the front of what is left
  abbrev front : Position
  front = record { offset = a.offset; left = take longest a.left.items }

  parts : take longest a.left.items ≡ take a.read a.left.items ++ before.left
  parts = front_parts a.left.items a.read order.there order.few ∙ ap (λ (p : Position). take a.read a.left.items ++ p.left) (sym position)

  -- reading on answers what reading from the front does
  front_reads : spelling.read a.offset front ≡ reads_on reader before
  front_reads = ap (λ (l : List ℕ). spelling.read a.offset (record { offset = a.offset; left = l })) parts ∙ reached before.left

  -- a term is read from the front on
  pub term_between : (t : TermValue) (behind : Position) → reads_on reader before ≡ Ok (t, behind) → Between (spelling.Whole t) front behind
  term_between t behind e = spelling-exact.read_whole a.offset front t behind (front_reads ∙ e)

  pub term_front : (t : TermValue) (behind : Position) (count : ℕ) → reads_on reader before ≡ Ok (t, behind) → count ≡ behind.offset - a.offset
      → IsFront spelling (take longest a.left.items) t count
  term_front t behind count e counted =
      let between = term_between t behind e in
      let here : behind.offset ≡ a.offset + count = omega (arith, between.offset) in
      front_read spelling spelling-exact a.offset front behind t count refl here (front_reads ∙ e)

  fault_front : (fault : EtfFault) → reads_on reader before ≡ Err fault → Answers spelling a.offset (take longest a.left.items) (Err fault)
  fault_front fault e = fault_read spelling spelling-exact a.offset (take longest a.left.items) fault (front_reads ∙ e)

  -- any other answer is one to the front
  pub fault_answers : (fault : EtfFault) → (fault ≡ Memory) ⊎ (reads_on reader before ≡ Err fault)
      → Answers spelling a.offset (take longest a.left.items) (Err fault)
  fault_answers fault (inl memory) = subst (λ f. Answers spelling a.offset (take longest a.left.items) (Err f)) (sym memory) tt
  fault_answers fault (inr e) = fault_front fault e

  -- where the bytes end the reader keeps what it has come to
  pub short_order : (new : TermReader) (behind : Position) (now : ℕ) → IsReader new → GoesOn (reads_on reader) (reads_on new) before behind
      → now ≡ behind.offset - a.offset → IsInOrder (record a { reader = new; read = now })
  short_order new behind now good on counted =
      let items = a.left.items in
      let more : now ≡ a.read + length on.front = omega (arith, on.offset, read_to) in
      let old : length (take a.read items) ≡ a.read = length-take-le a.read items order.there in
      let whole : take longest items ≡ (take a.read items ++ on.front) ++ behind.left =
      parts ∙ ap (λ l. take a.read items ++ l) on.bytes ∙ sym (append_assoc (take a.read items) on.front behind.left) in
      let read : length (take a.read items ++ on.front) ≡ now = omega (arith, more, old, length-append (take a.read items) on.front) in
      let within : now ≤ length (take longest items) = omega (arith, read, ap length whole, length-append (take a.read items ++ on.front) behind.left) in
      let first : take now items ≡ take a.read items ++ on.front =
      ap (take now) (sym (take-append-drop longest items))
      ∙ take-append-le now (take longest items) (drop longest items) within
      ∙ ap (take now) whole
      ∙ take_at (take a.read items ++ on.front) behind.left now read in
      let there : behind.offset ≡ a.offset + now = omega (arith, more, on.offset, read_to) in
      record {
        there = omega (arith, within, length-take longest items);
        few = omega (arith, within, length-take longest items);
        short = order.short;
        reader = good;
        reached = λ rest.
            ap (λ (l : List ℕ). spelling.read a.offset (record { offset = a.offset; left = l ++ rest })) first
            ∙ ap (λ (l : List ℕ). spelling.read a.offset (record { offset = a.offset; left = l })) (append_assoc (take a.read items) on.front rest)
            ∙ reached (on.front ++ rest)
            ∙ on.holds rest
            ∙ ap (λ (o : ℕ). reads_on new (record { offset = o; left = rest })) there;
      }

-- ---- what is answered

-- a part is the whole that is left where that is short
pub part_left : (items : List ℕ) → length items < longest → IsPart (take longest items) → IsPart items
part_left items few part = subst IsPart (take_all longest items (omega arith)) part

-- a fault at the byte that breaks a rule
broken : (old : SpellingFeed) (fault : EtfFault) → fault ≢ Short → fault ≢ Memory → Answers spelling old.offset (front_of old) (Err fault)
    → Holds spellings old (no_term (breaks fault))
broken old Short other some h = absurd (other refl)
broken old Memory other some h = absurd (some refl)
broken old (LongTerm at) other some h = absurd ((spelling_lacks_long at).no_break old.offset old.offset h.front h.holds)
broken old fault other some h = h

fails : (old new : SpellingFeed) (fault answer : EtfFault) → Holds spellings old (no_term (breaks fault)) → new ≡ failed old fault → answer ≡ fault
    → Gives spellings old new (Err answer)
fails old new fault answer holds kept same = subst (λ f. Gives spellings old new (Err f)) (sym same) (inl (holds, kept))

pub gives_broken : (old new : SpellingFeed) (fault answer : EtfFault) → fault ≢ Short → fault ≢ Memory → Answers spelling old.offset (front_of old) (Err fault)
    → new ≡ failed old fault → answer ≡ fault → Gives spellings old new (Err answer)
gives_broken old new fault answer other some h kept same = fails old new fault answer (broken old fault other some h) kept same

pub gives_long : (old new : SpellingFeed) (start : ℕ) (answer : EtfFault) → start ≡ old.offset → longest ≤ length old.left → IsPart (front_of old)
    → new ≡ failed old (LongTerm start) → answer ≡ LongTerm start → Gives spellings old new (Err answer)
gives_long old new start answer here many part kept same = fails old new (LongTerm start) answer (here, many, part) kept same

pub gives_short : (old new : SpellingFeed) (answer : EtfFault) → old.finished ≡ true → old.left ≢ [] → length old.left < longest → IsPart (front_of old)
    → new ≡ failed old Short → answer ≡ Short → Gives spellings old new (Err answer)
gives_short old new answer finished some few part kept same = fails old new Short answer (finished, some, few, part_left old.left few part) kept same

-- where no fault came yet
pub gives_first : (old new : SpellingFeed) (answer : Result Fed EtfFault) → old.fault ≡ None → Gives spellings old new answer → IsNext spellings old new answer
gives_first old new answer none gives = subst (λ fault. gives_behind fault spellings old new answer) (sym none) gives

-- an answer loses no byte, and the input goes on or is finished as before
pub spellings_keep : (old new : SpellingFeed) (answer : Result Fed EtfFault) → IsNext spellings old new answer
    → (total new ≡ total old) × (new.finished ≡ old.finished)
spellings_keep old new answer next = next_keeps spellings steady-spellings old new answer next
