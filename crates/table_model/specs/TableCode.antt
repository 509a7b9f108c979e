-- How a table is coded, for the types of the code that show one.
use Rattle.std.specs.Prelude.{◌≡◌, ℕ, zero, suc, List, refl}
use Rattle.std.specs.Coded.{Coded, code_by, coded×, coded_ℕ, coded_list}
use Rattle.term_model.specs.TermValue.{TermValue}
use Rattle.dets_term.specs.TermCode.{coded_term}
use Rattle.term_model.specs.declared.kind.Kind.{Kind}
use Rattle.term_model.specs.declared.kind.Kind.TheVariants.{Set, Bag, DuplicateBag}
use Rattle.table_model.specs.Table.{Table}

abbrev pub kind_number : Kind → ℕ
kind_number Set = 0
kind_number Bag = 1
kind_number DuplicateBag = 2

abbrev pub kind_at : ℕ → Kind
kind_at zero = Set
kind_at (suc zero) = Bag
kind_at (suc (suc n)) = DuplicateBag

pub kind_at-kind_number : (kind : Kind) → kind_at (kind_number kind) ≡ kind
kind_at-kind_number Set = refl
kind_at-kind_number Bag = refl
kind_at-kind_number DuplicateBag = refl

abbrev pub coded_kind : Coded Kind
coded_kind = code_by ℕ coded_ℕ kind_number kind_at kind_at-kind_number

abbrev pub coded_table : Coded Table
coded_table =
    code_by (Kind × (ℕ × List TermValue)) (coded× coded_kind (coded× coded_ℕ (coded_list coded_term)))
    (λ t. (t.kind, (t.keypos, t.objects))) (λ p. record { kind = p.0; keypos = p.1.0; objects = p.1.1 }) (λ _. refl)
