-- Faults that are told where a token begins, and a number and a name that are too long.
use Rattle.std.proofs.Common.{◌≡◌, ℕ, ℤ, ◌<◌, false, Some, List, [], ◌∷◌, ◌++◌, length, append_assoc, append-nil, refl, ap, ◌∙◌, sym, subst, inl, inr, arith}
use Rattle.text_model.specs.declared.fault.TextWhy.{TextWhy}
use Rattle.text_model.specs.Token.{a_number, a_plain}
use Rattle.text_model.specs.Spelling.{IsNumber}
use Rattle.text_model.specs.Located.{tokens_of}
use Rattle.text_model.specs.Sentence.{ends}
use Rattle.text_model.specs.Faults.{Shows, Breaks}
use Rattle.text_model.proofs.Comes.{sign}
use Rattle.text_model.proofs.ComesRows.{StrayRow, DeepRow, WideRow, LongPlainRow}
use Rattle.text_model.proofs.LongerTokens.{number_shows, plain_shows}
use Rattle.text_model.proofs.RowsWell.{read_before, goes_well, next_token}
use Rattle.text_model.proofs.TokenStarts.{front_some, begins_some}
use Rattle.text_model.proofs.Verdicts.{stray_passes, deep_passes}
use Rattle.text_model.proofs.Looser.{formal_taken, deeper_taken}
use Rattle.text_model.proofs.Reaching.{reached}
use Rattle.text_model.specs.Grammar.{strict, formal}
use Rattle.text_model.proofs.Passes.{value_stands, may_stand_passes, passes_may_stand}

ends_more : (front more : List ℕ) → ends false front ≡ Some false → ends false (front ++ more) ≡ Some false
ends_more [] more e = cc
ends_more (x ∷ front) more e = e

pub stray_breaks : (p : List ℕ) (at : ℕ) (why : TextWhy) → StrayRow p at why → (more : List ℕ) → Breaks (p ++ more) at why
stray_breaks p at why r more =
    let read = read_before p r.nest at r.front more r.before (begins_some r.front r.begins) in
    subst (λ w. Breaks (p ++ more) at w) (sym r.reason)
    (inl (record {
      tokens = tokens_of read.tokens;
      rest = r.front ++ more;
      next = record { well = goes_well (p ++ more) r.nest at (r.front ++ more) read; begins = ends_more r.front more r.begins };
      rule = inl (record {
        none = λ others sort shows.
            let front : Shows sort (r.front ++ (more ++ others)) = subst (Shows sort) (append_assoc r.front more others) shows in
            λ s. stray_passes r.nest at sort (reached strict r.nest read.tokens (omega arith) read.taken).shallow
            (λ start v place is. r.apart (more ++ others) start v (subst (λ k. Shows k (r.front ++ (more ++ others))) is front) place)
            (r.none (more ++ others) sort front)
            (may_stand_passes (formal 257) read.tokens r.nest at sort (deeper_taken read.tokens r.nest read.taken) s);
      });
    }))

pub deep_breaks : (p : List ℕ) (at : ℕ) (why : TextWhy) → DeepRow p at why → (more : List ℕ) → Breaks (p ++ more) at why
deep_breaks p at why r more =
    let read = read_before p r.nest at r.front more r.before (front_some r.sort r.front (r.shows [])) in
    let deep = deep_passes r.nest at r.sort (reached strict r.nest read.tokens (omega arith) read.taken).shallow r.refused in
    subst (λ w. Breaks (p ++ more) at w) (sym r.reason)
    (record {
      tokens = tokens_of read.tokens;
      rest = r.front ++ more;
      next = next_token (p ++ more) r.nest at (r.front ++ more) read r.sort (r.shows more);
      rule = inl (record {
        sort = r.sort;
        shows = r.shows more;
        deeper = passes_may_stand 257 (omega arith) read.tokens r.nest at r.sort (deeper_taken read.tokens r.nest read.taken) deep.0;
        not_here = λ s. deep.1 (may_stand_passes (formal 256) read.tokens r.nest at r.sort (formal_taken read.tokens r.nest read.taken) s);
      });
    })

wide_shows : (z : ℤ) (front more : List ℕ) → IsNumber z front [] → Shows a_number (front ++ more)
wide_shows z front more i =
    number_shows i.minus i.digits (front ++ more) more i.some i.decimal
    (ap (λ l. l ++ more) (i.whole ∙ ap (λ l. sign i.minus ++ l) (append-nil i.digits)) ∙ append_assoc (sign i.minus) i.digits more)

pub wide_breaks : (p : List ℕ) (at : ℕ) (why : TextWhy) → WideRow p at why → (more : List ℕ) → Breaks (p ++ more) at why
wide_breaks p at why r more =
    let shows : Shows a_number (r.front ++ more) = wide_shows r.value r.front more r.number in
    let read = read_before p r.nest at r.front more r.before (front_some a_number r.front (wide_shows r.value r.front [] r.number)) in
    subst (λ w. Breaks (p ++ more) at w) (sym r.reason)
    (record {
      tokens = tokens_of read.tokens;
      rest = r.front ++ more;
      next = next_token (p ++ more) r.nest at (r.front ++ more) read a_number shows;
      rule = record {
        in_place = record { shows = shows; stands = value_stands read.tokens r.nest a_number read.taken refl r.in_place };
        value = r.value;
        digits = r.front;
        front = (more, refl);
        number = r.number;
        wide = r.wide;
      };
    })

pub long_plain_breaks : (p : List ℕ) (at : ℕ) (why : TextWhy) → LongPlainRow p at why → (more : List ℕ) → Breaks (p ++ more) at why
long_plain_breaks p at why r more =
    let shows : Shows a_plain (r.characters ++ more) = plain_shows r.characters (r.characters ++ more) more r.name refl in
    let long : 255 < length r.characters = r.long in
    let read = read_before p r.nest at r.characters more r.before (omega arith) in
    subst (λ w. Breaks (p ++ more) at w) (sym r.reason)
    (inl (record {
      tokens = tokens_of read.tokens;
      rest = r.characters ++ more;
      next = next_token (p ++ more) r.nest at (r.characters ++ more) read a_plain shows;
      rule = inr (inl (record {
        in_place = record { shows = shows; stands = value_stands read.tokens r.nest a_plain read.taken refl r.in_place };
        characters = r.characters;
        name = r.name;
        front = (more, refl);
        long = r.long;
      }));
    }))
