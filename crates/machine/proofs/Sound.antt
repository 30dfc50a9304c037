-- What stands after an opening and any list of calls. Assumes nothing.
use Rattle.std.proofs.Common.{ℕ, List, [], refl, subst}
use Rattle.rules.specs.Books.{Book}
use Rattle.rules.specs.Valids.{Valid}
use Rattle.theory.specs.declared.interface.Theory as Theory
use Rattle.theory.specs.Meanings.{Lawful}
use Rattle.table.specs.declared.partner.PartnerTable as PartnerTable
use Rattle.machine.specs.Lists.{◌∈◌}
use Rattle.machine.specs.Sheets.{Config, Event}
use Rattle.machine.specs.Refined.{Opened}
use Rattle.machine.specs.Statements.{firings, Within, Stand, AlwaysSound}
use Rattle.machine.proofs.Members.{mem_none}
use Rattle.machine.proofs.Cover.{firing, Covered, in_history, by_wake, by_active}
use Rattle.machine.proofs.Trails as trail
use Rattle.machine.proofs.Trails.{Trail, plays_trail}
use Rattle.machine.proofs.Limits.{limits_opened, limits_variable, limits_post, limits_step, free}
use Rattle.machine.proofs.Good.{Good, good_opened, good_variable, good_post, good_step}
use Rattle.machine.proofs.Reached.{ReachedAt, reached_opened, reached_variable, reached_post, reached_step}
use Rattle.machine.proofs.Meant.{MeantAt, meant_opened, meant_variable, meant_post, meant_step}
use Rattle.machine.proofs.Settled.{CoveredAt, RecordedAt, covered_opened, covered_variable, covered_post, covered_step, recorded_variable, recorded_post, recorded_step}
use Rattle.machine.proofs.Admitted.{AdmittedAt, admitted_opened, admitted_variable, admitted_post, admitted_step}

module _ {A B : Type 0} (T : Theory.Ghosts A) (P : PartnerTable.Ghosts B) (lawful : Lawful T.means T.capacity) (book : Book) (valid : Valid book) where
  -- all that is kept from call to call
  pub record Kept (es : List Event) (s : Config A B) : Type 0 where
    pub within : Within T P es s
    pub good : Good T P s
    pub reached : ReachedAt T P es s
    pub meant : MeantAt T P es s
    pub covered : CoveredAt T P s
    pub recorded : RecordedAt T P es s
    pub admitted : AdmittedAt T P es s

  kept : {s t : Config A B} {es : List Event} → Opened T P book s → Trail T P s es t → Kept es t
  kept {s} o trail.begins = record { within = limits_opened T P book s o; good = good_opened T P book s valid o; reached = reached_opened T P book s o; meant = meant_opened T P book s o; covered = covered_opened T P book s valid o; recorded = λ f m. absurd (mem_none (subst (λ (h : List _). f ∈ h) o.history m)); admitted = admitted_opened T P book s o }
  kept o (trail.makes {es = es} {t = t} {u = u} x p v) = let k = kept o p in record { within = limits_variable T P es t u x k.within v; good = good_variable T P t u x k.good v; reached = reached_variable T P es t u x lawful v k.reached; meant = meant_variable T P t u es x lawful k.good k.within.made v k.meant; covered = covered_variable T P t u x k.good v k.covered; recorded = recorded_variable T P es _ t u x v k.recorded; admitted = admitted_variable T P es _ t u x refl v k.admitted }
  kept o (trail.posts {es = es} {t = t} {u = u} kind symbol xs g p v e) = let k = kept o p in record { within = limits_post T P es t u kind symbol xs g k.within v; good = good_post T P t u kind symbol xs k.within.made k.good v; reached = reached_post T P es t u kind symbol xs g k.within v e k.reached; meant = meant_post T P t u es kind symbol xs g v e k.meant; covered = covered_post T P t u kind symbol xs v k.covered; recorded = recorded_post T P es _ t u kind symbol xs v k.recorded; admitted = admitted_post T P es _ t u kind symbol xs refl v k.admitted }
  kept o (trail.steps {es = es} {t = t} {u = u} a p v) = let k = kept o p in record { within = limits_step T P es t u a _ k.within v; good = good_step T P t u a (free T P es t k.within) k.good v; reached = reached_step T P es t u a _ lawful k.within k.good v k.reached; meant = meant_step T P t u es a _ lawful k.good k.within.made (free T P es t k.within) v k.meant; covered = covered_step T P t u a (free T P es t k.within) k.good v k.covered; recorded = recorded_step T P es t u a _ v k.recorded; admitted = admitted_step T P es t u a k.good v k.admitted }

  stand : (es : List Event) (s : Config A B) → Kept es s → Stand T P es s
  stand es s x = record {
    reached = (x.reached.state, x.reached.reaches, x.reached.shows);
    meant = x.meant;
    settled = λ e st k tuple a b ap. over (subst (λ w. Covered s.book w s.history k tuple) e (x.covered st k tuple a b ap));
    never_twice = x.reached.once;
    admitted = x.admitted;
    within = x.within;
  }
    where
      over : {k : ℕ} {tuple : List ℕ} → Covered s.book [] s.history k tuple → firing k tuple ∈ firings es
      over {k} {tuple} (in_history q m) = x.recorded (k, tuple) m
      over (by_wake i a m) = absurd (mem_none m)
      over (by_active i j l h a b m p c o) = absurd (mem_none m)

pub always_sound : {A B : Type 0} (T : Theory.Ghosts A) (P : PartnerTable.Ghosts B) → Lawful T.means T.capacity → AlwaysSound T P
always_sound T P lawful book valid s t log es o p = stand T P lawful book valid es t (kept T P lawful book valid o (plays_trail T P p))
