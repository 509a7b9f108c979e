-- How a run goes on, step by step.
use Rattle.std.proofs.Common.{◌≡◌, ℕ, ◌+◌, Bool, true, false, List, [], ◌∷◌, ◌++◌, length, length-append, drop, flat_map, Option, Some, None}
use Rattle.std.proofs.Common.{option_map, Result, Ok, Err, inl, inr, refl, ap, ◌∙◌, sym, subst, append_assoc, append-nil, arith}
use Rattle.std.proofs.lemmas.List.{drop-append-le, length-drop}
use Rattle.std.specs.Option.{option_map_or}
use Rattle.dets_term.specs.TermValue.{TermValue}
use Rattle.feed_model.specs.declared.fed.Fed.{Fed}
use Rattle.feed_model.specs.declared.fed.Fed.TheVariants.{Again, End}
use Rattle.feed_model.specs.Meaning.{goes_on, ends, a_term, no_term, Meaning}
use Rattle.feed_model.specs.Feed.{Feed, total, Gives, gives_behind, IsNext}
use Rattle.feed_model.specs.Stream.{IsStream}
use Rattle.feed_model.specs.Steady.{Steady}
use Rattle.run_model.specs.History.{answers}
use Rattle.host_model.specs.Host.{Shown}
use Rattle.dets_tool.specs.declared.status.Status.{Status}
use Rattle.dets_tool.specs.declared.status.Status.TheVariants.{Done, Input, WordsRefused, Disk, SourceFault, Output, Memory, File, NotYet}
use Rattle.dets_tool.specs.Service.{Service}
use Rattle.dets_tool.specs.Serving.{Standing, standing, Serves, Replies, IsUnserved, Stops, at_fault, at_memory, Breaks, IsWaiting, IsReady}

-- ---- output

pub said_nothing : (said : Option (List ℕ)) → said ≡ option_map (λ (output : List ℕ). output ++ []) said
said_nothing None = refl
said_nothing (Some output) = ap Some (sym (append-nil output))

pub said_both : (said : Option (List ℕ)) (xs ys : List ℕ)
    → option_map (λ (output : List ℕ). output ++ ys) (option_map (λ (output : List ℕ). output ++ xs) said)
    ≡ option_map (λ (output : List ℕ). output ++ (xs ++ ys)) said
said_both None xs ys = refl
said_both (Some output) xs ys = ap Some (append_assoc output xs ys)

pub lines-append : (line : TermValue → List ℕ) (xs ys : List TermValue) → flat_map line (xs ++ ys) ≡ flat_map line xs ++ flat_map line ys
lines-append line [] ys = refl
lines-append line (x ∷ xs) ys = ap (λ l. line x ++ l) (lines-append line xs ys) ∙ sym (append_assoc (line x) (flat_map line xs) (flat_map line ys))

-- ---- terms

module _ {F S : Type 0} (m : Meaning F) (service : Service S) where
  pub Serves-none : (finished : Bool) (here : Standing S) → Serves m service finished here here
  Serves-none finished here = record {
    terms = [];
    given = [];
    stream = λ then more ts behind last s. s;
    fed = refl;
    served = λ _. refl;
    all = refl;
    answered = omega arith;
    said = said_nothing here.said;
  }

  pub Serves-append : (finished : Bool) (a b c : Standing S) → Serves m service finished a b → Serves m service finished b c
      → Serves m service finished a c
  Serves-append finished a b c s t = record {
    terms = s.terms ++ t.terms;
    given = s.given ++ t.given;
    stream = λ then more ts behind last is.
        subst (λ l. IsStream m then a.offset (a.left ++ more) l behind) (sym (append_assoc s.terms t.terms ts))
        (s.stream then more (t.terms ++ ts) behind last (t.stream then more ts behind last is));
    fed = t.fed ∙ s.fed;
    served = λ more.
        ap (answers service.step a.state) (append_assoc s.terms t.terms more) ∙ s.served (t.terms ++ more)
        ∙ ap (λ l. s.given ++ l) (t.served more) ∙ sym (append_assoc s.given t.given (answers service.step c.state more));
    all = omega (arith, s.all, t.all, length-append s.given t.given, length-append s.terms t.terms);
    answered = omega (arith, s.answered, t.answered, length-append s.given t.given);
    said =
        t.said ∙ ap (option_map (λ (output : List ℕ). output ++ flat_map service.line t.given)) s.said
        ∙ said_both a.said (flat_map service.line s.given) (flat_map service.line t.given)
        ∙ ap (λ l. option_map (λ (output : List ℕ). output ++ l) a.said) (sym (lines-append service.line s.given t.given));
  }

  -- one term more
  pub Serves-one : Steady m → (finished : Bool) (old new : Standing S) (left : List ℕ) (offset : ℕ) (t : TermValue) (count : ℕ)
      → m.Stands finished old.offset old.left (a_term t count) → left ≡ drop count old.left → offset ≡ old.offset + count
      → Replies service (record old { left = left; offset = offset }) new t → Serves m service finished old new
  Serves-one steady finished old new left offset t count here e f r = record {
    terms = t ∷ [];
    given = r.reply ∷ [];
    stream = λ then more ts behind last is.
        let within = steady.within finished old.offset old.left t count here in
        let rest : new.left ++ more ≡ drop count (old.left ++ more) =
        ap (λ l. l ++ more) (r.left ∙ e) ∙ sym (drop-append-le count old.left more within.1) in (
          count,
          steady.stays finished then old.offset old.left more (a_term t count) (λ same. cc) last here,
          subst (λ l. IsStream m then (old.offset + count) l ts behind) rest
              (subst (λ n. IsStream m then n (new.left ++ more) ts behind) (r.offset ∙ f) is),
        );
    fed = (let within = steady.within finished old.offset old.left t count here in
        omega (arith, within.1, r.offset, f, ap length r.left, ap length e, length-drop count old.left));
    served = λ more. ap (λ o. option_map_or (λ (served : TermValue × S). served.0 ∷ answers service.step served.1 more) o []) r.step;
    all = refl;
    answered = r.answered;
    said = r.said ∙ ap (λ l. option_map (λ (output : List ℕ). output ++ l) old.said) (sym (append-nil (service.line r.reply)));
  }

  -- more bytes come behind
  pub Serves-more : (finished : Bool) (a b : Standing S) (piece : List ℕ) → Serves m service false a b
      → Serves m service finished (record a { left = a.left ++ piece }) (record b { left = b.left ++ piece })
  Serves-more finished a b piece s = record {
    terms = s.terms;
    given = s.given;
    stream = λ then more ts behind last is.
        subst (λ l. IsStream m then a.offset l (s.terms ++ ts) behind) (sym (append_assoc a.left piece more))
        (s.stream then (piece ++ more) ts behind (λ f. cc) (subst (λ l. IsStream m then b.offset l ts behind) (append_assoc b.left piece more) is));
    fed = omega (arith, s.fed, length-append a.left piece, length-append b.left piece);
    served = s.served;
    all = s.all;
    answered = s.answered;
    said = s.said;
  }

  -- and none where the input is finished
  pub Serves-finish : (a b : Standing S) → Serves m service false a b → Serves m service true a b
  Serves-finish a b s =
      subst (λ (n : Standing S). Serves m service true a n) (same b)
      (subst (λ (n : Standing S). Serves m service true n (record b { left = b.left ++ [] })) (same a) (Serves-more true a b [] s))
    where
      same : (n : Standing S) → record n { left = n.left ++ [] } ≡ n
      same n = ap (λ l. record n { left = l }) (append-nil n.left)

  -- a run that breaks behind terms that were answered
  pub Breaks-behind : (told : F → ℕ → Status) (status : Status) (finished : Bool) (a b : Standing S) (now : Option (List ℕ))
      → Serves m service finished a b → Breaks m told service status finished b now → Breaks m told service status finished a now
  Breaks-behind told status finished a b now s f =
      record { here = f.here; served = Serves-append finished a b f.here s f.served; stops = f.stops }

-- why a term was not answered does not depend on the bytes that are left
pub IsUnserved-left : {S : Type 0} (service : Service S) (status : Status) (here : Standing S) (left : List ℕ) (offset : ℕ) (t : TermValue)
    (now : Option (List ℕ)) → IsUnserved service status (record here { left = left; offset = offset }) t now → IsUnserved service status here t now
IsUnserved-left service Done here left offset t now u = u
IsUnserved-left service (Input at why) here left offset t now u = u
IsUnserved-left service WordsRefused here left offset t now u = u
IsUnserved-left service Disk here left offset t now u = u
IsUnserved-left service (File why) here left offset t now u = u
IsUnserved-left service SourceFault here left offset t now u = u
IsUnserved-left service Output here left offset t now u = u
IsUnserved-left service Memory here left offset t now u = u
IsUnserved-left service (NotYet number) here left offset t now u = u

-- ---- what a feed answers

module _ {F : Type 0} (m : Meaning F) where
  -- where no fault came yet
  pub gives_now : (old new : Feed F) (answer like : Result Fed F) → old.fault ≡ None → IsNext m old new answer → answer ≡ like → Gives m old new like
  gives_now old new answer like e g is =
      subst (λ (r : Result Fed F). Gives m old new r) is (subst (λ (f : Option F). gives_behind f m old new answer) e g)

  -- where no term is given, what is left waits
  pub waits_on : Steady m → (old new : Feed F) (finished : Bool) → old.finished ≡ finished → Gives m old new (Ok Again) → IsWaiting m finished new
  waits_on steady old new true f (is, e) =
      absurd (steady.closed old.offset old.left (subst (λ b. m.Stands b old.offset old.left (no_term goes_on)) f is))
  waits_on steady old new false f (is, e) =
      subst (λ (s : Feed F). IsWaiting m false s) (sym e) (subst (λ b. m.Stands b old.offset old.left (no_term goes_on)) f is)

  pub waits_at_end : Steady m → (old new : Feed F) (finished : Bool) → old.finished ≡ finished → Gives m old new (Ok End) → IsWaiting m finished new
  waits_at_end steady old new true f (is, e) =
      subst (λ (s : Feed F). IsWaiting m true s) (sym e) (subst (λ b. m.Stands b old.offset old.left (no_term ends)) f is)
  waits_at_end steady old new false f (is, e) =
      absurd (steady.open_end old.offset old.left (subst (λ b. m.Stands b old.offset old.left (no_term ends)) f is))

-- a fault that is answered, of which so many bytes were fed
pub fault_stops : {F S : Type 0} (m : Meaning F) (told : F → ℕ → Status) (service : Service S) → ((fed : ℕ) → told m.memory fed ≡ Memory)
    → (old new : Feed F) (state : S) (answered fed : ℕ) (host : Shown) (fault : F) (status : Status) → fed ≡ total old → status ≡ told fault fed
    → Gives m old new (Err fault) → Stops m told service old.finished (standing old state answered host) host.said status
fault_stops m told service of_memory old new state answered fed host fault status f e (inl (is, kept)) =
    subst (Stops m told service old.finished (standing old state answered host) host.said) (sym (e ∙ ap (told fault) f)) (at_fault fault is refl)
fault_stops m told service of_memory old new state answered fed host fault status f e (inr (none, kept)) =
    subst (Stops m told service old.finished (standing old state answered host) host.said)
    (sym (e ∙ ap (λ x. told x fed) none ∙ of_memory fed)) (at_memory refl)

-- where nothing was taken
pub Serves-same : {F S : Type 0} (m : Meaning F) (service : Service S) (finished : Bool) (old new : Feed F) (state : S) (answered : ℕ) (host : Shown)
    → new ≡ old → Serves m service finished (standing old state answered host) (standing new state answered host)
Serves-same m service finished old new state answered host e = rw e (Serves-none m service finished (standing old state answered host))

-- what follows is told of the input as it stands then, which goes on or has ended as before
module _ {F S : Type 0} (m : Meaning F) (service : Service S) (finished then : Bool) (same : then ≡ finished) where
  pub Serves-on : (a b c : Standing S) → Serves m service finished a b → Serves m service then b c → Serves m service finished a c
  Serves-on a b c s t = Serves-append m service finished a b c s (subst (λ f. Serves m service f b c) same t)

  pub Breaks-on : (told : F → ℕ → Status) (status : Status) (a b : Standing S) (now : Option (List ℕ)) → Serves m service finished a b
      → Breaks m told service status then b now → Breaks m told service status finished a now
  Breaks-on told status a b now s f =
      Breaks-behind m service told status finished a b now s (subst (λ g. Breaks m told service status g b now) same f)

pub IsReady-on : {F : Type 0} (finished then : Bool) (feed : Feed F) (answered : ℕ) → then ≡ finished → IsReady then feed answered
    → IsReady finished feed answered
IsReady-on finished then feed answered e r = subst (λ f. IsReady f feed answered) e r
