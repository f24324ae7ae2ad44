-- From the nodes' links to the volumes' restore graph.
use Rattle.std.proofs.Common.{◌≡◌, ℕ, zero, suc, ◌<◌, ◌≤◌, Option, Some, None, List, [], ◌∷◌, length, map, refl, sym, ap, subst, ◌∙◌, arith, inl, inr}
use Rattle.std.proofs.lemmas.Bool.{cases_eq}
use Rattle.std.proofs.lemmas.List.{length-map}
use Rattle.fc_base.specs.declared.ids.VolId.{VolId}
use Rattle.fc_base.specs.Column.{Shape}
use Rattle.fc_base.specs.RestoreGraph.{Edge, Way, HasNoLoop, IsRoute, IsNoLater, IsToldLoop}
use Rattle.fc_base.specs.RestoreGraph.Way.{last_edge, next_edge}
use Rattle.fc_base.specs.SheetView.{LoopAnswer}
use Rattle.fc_loops.specs.declared.loops.Link.{Link}
use Rattle.fc_loops.specs.declared.rows.Row.{Row}
use Rattle.fc_loops.specs.Routes.{RouteBy, IsToldBy, ToldBy}
use Rattle.fc_loops.specs.Links.{HasLink}
use Rattle.fc_loops.specs.Rows.{row_shape}
use Rattle.fc_loops.specs.Joins.{volume_at, IsListedAt, IsListed, IsRising, AreOldVolumes, AreLinked, AllBelow}
use Rattle.fc_loops.proofs.LoopVolumes.{one_place}

-- ---- routes and ways

way_route : (s : Shape) (v w : ℕ) → Way s v w → (xs : List ℕ) × RouteBy (Edge s) v xs w
way_route s v w (last_edge e) = ([], e)
way_route s v w (next_edge {w = x} e y) = let r = way_route s x w y in (x ∷ r.0, (e, r.1))

route_way : (s : Shape) (v : ℕ) (xs : List ℕ) (w : ℕ) → RouteBy (Edge s) v xs w → Way s v w
route_way s v [] w e = last_edge e
route_way s v (x ∷ xs) w r = next_edge r.0 (route_way s x xs w r.1)

to_route : (s : Shape) (v : ℕ) (xs : List ℕ) (w : ℕ) → RouteBy (Edge s) v xs w → IsRoute s v xs w
to_route s v [] w e = e
to_route s v (x ∷ xs) w r = (r.0, to_route s x xs w r.1)

from_route : (s : Shape) (v : ℕ) (xs : List ℕ) (w : ℕ) → IsRoute s v xs w → RouteBy (Edge s) v xs w
from_route s v [] w e = e
from_route s v (x ∷ xs) w r = (r.0, from_route s x xs w r.1)

-- what is told of one graph is told of another with the same edges
move_route : (E F : ℕ → ℕ → Type 0) → ((v w : ℕ) → E v w → F v w) → (v : ℕ) (xs : List ℕ) (w : ℕ) → RouteBy E v xs w → RouteBy F v xs w
move_route E F h v [] w e = h v w e
move_route E F h v (x ∷ xs) w r = (h v x r.0, move_route E F h x xs w r.1)

told_same : (E F : ℕ → ℕ → Type 0) → ((v w : ℕ) → E v w → F v w) → ((v w : ℕ) → F v w → E v w) → (first : ℕ) (rest : List ℕ) → IsToldBy E first rest → IsToldBy F first rest
told_same E F h b first rest t =
    record {
      is_loop = move_route E F h first rest first t.is_loop;
      least = λ v xs r. t.least v xs (move_route F E b v xs v r);
      shortest = λ other r. t.shortest other (move_route F E b first other first r);
      earliest = λ other r l. t.earliest other (move_route F E b first other first r) l;
    }

pub told_loop_is : (s : Shape) (first : ℕ) (rest : List ℕ) → IsToldBy (Edge s) first rest → IsToldLoop s first rest
told_loop_is s first rest t =
    record {
      is_loop = to_route s first rest first t.is_loop;
      least = λ v y. (let r = way_route s v v y in t.least v r.0 r.1);
      shortest = λ other r. t.shortest other (from_route s first other first r);
      earliest = λ other r l. t.earliest other (from_route s first other first r) l;
    }

pub no_loop_is : (s : Shape) → ToldBy (Edge s) None → HasNoLoop s
no_loop_is s t = λ v y. (let r = way_route s v v y in t v r.0 r.1)

-- the answer for one shape is that for another with the same edges
pub answer_same : (s t : Shape) → ((v w : ℕ) → Edge s v w → Edge t v w) → ((v w : ℕ) → Edge t v w → Edge s v w) → (o : Option (List VolId)) → LoopAnswer s o → LoopAnswer t o
answer_same s t h b None n = λ v y. (let r = way_route t v v y in n v (route_way s v r.0 v (move_route (Edge t) (Edge s) b v r.0 v r.1)))
answer_same s t h b (Some []) n = n
answer_same s t h b (Some (v ∷ vs)) n =
    let names : List ℕ = map (λ (w : VolId). w.0) vs in
    told_loop_is t v.0 names (told_same (Edge s) (Edge t) h b v.0 names (record {
      is_loop = from_route s v.0 names v.0 n.is_loop;
      least = λ w xs r. n.least w (route_way s w xs w r);
      shortest = λ other r. n.shortest other (to_route s v.0 other v.0 r);
      earliest = λ other r l. n.earliest other (to_route s v.0 other v.0 r) l;
    }))

-- ---- links and edges

-- The links of the nodes are the edges among the volumes of the list, and from a volume off the list none leads.
pub record Names (E L : ℕ → ℕ → Type 0) (volumes : List ℕ) : Type 0 where
  pub rising : IsRising volumes
  pub from_there : (v w : ℕ) → E v w → IsListed volumes v
  pub edge : (i j : ℕ) → L i j → (i < length volumes) × (j < length volumes) × E (volume_at volumes i) (volume_at volumes j)
  pub link : (i j : ℕ) → i < length volumes → j < length volumes → E (volume_at volumes i) (volume_at volumes j) → L i j

pub names_of : (rows : List Row) (volumes : List ℕ) (links : List Link) → AreOldVolumes rows volumes → AreLinked rows volumes links (length rows) 0 → Names (Edge (row_shape rows)) (HasLink links) volumes
names_of rows volumes links o l = record { rising = o.rising; from_there = from_there; edge = edge; link = link }
  where
    from_there : (v w : ℕ) → Edge (row_shape rows) v w → IsListed volumes v
    from_there v w e = o.all v (record { at = e.old; there = (let a : e.old < e.live = e.before in let b : e.live < length rows = e.there in omega arith); is_old = e.old_is_old; of_volume = e.old_is_from })

    edge : (i j : ℕ) → HasLink links i j → (i < length volumes) × (j < length volumes) × Edge (row_shape rows) (volume_at volumes i) (volume_at volumes j)
    edge i j h =
        let n = l.only i j h in (
          n.2.from_is.there,
          n.2.to_is.there,
          record {
            other = λ q. n.2.other (one_place volumes (volume_at volumes j) i j o.rising (record { there = n.2.from_is.there; is = q }) (record { there = n.2.to_is.there; is = refl }));
            old = n.0;
            live = n.1;
            before = n.2.before;
            there = n.2.there;
            one_chain = n.2.one_chain;
            old_is_old = n.2.old_is_old;
            old_is_from = sym n.2.from_is.is;
            live_is_live = n.2.live_is_live;
            live_is_to = sym n.2.to_is.is;
          },
        )

    link : (i j : ℕ) → i < length volumes → j < length volumes → Edge (row_shape rows) (volume_at volumes i) (volume_at volumes j) → HasLink links i j
    link i j il jl e =
        l.all e.old e.live i j (record {
          before = e.before;
          there = e.there;
          one_chain = e.one_chain;
          old_is_old = e.old_is_old;
          live_is_live = e.live_is_live;
          from_is = record { there = il; is = sym e.old_is_from };
          to_is = record { there = jl; is = sym e.live_is_to };
          other = λ q. e.other (ap (volume_at volumes) q);
        }) (inl (let a : e.old < e.live = e.before in let b : e.live < length rows = e.there in omega arith))

abbrev pub named_nodes : List ℕ → List ℕ → List ℕ
named_nodes volumes nodes = map (volume_at volumes) nodes

lower : (E L : ℕ → ℕ → Type 0) (volumes : List ℕ) → Names E L volumes → (i : ℕ) (xs : List ℕ) (j : ℕ) → RouteBy L i xs j → RouteBy E (volume_at volumes i) (named_nodes volumes xs) (volume_at volumes j)
lower E L volumes n i [] j r = (n.edge i j r).2
lower E L volumes n i (x ∷ xs) j r = ((n.edge i x r.0).2, lower E L volumes n x xs j r.1)

-- A route of volumes as one of nodes.
record Raised (L : ℕ → ℕ → Type 0) (volumes : List ℕ) (v : ℕ) (xs : List ℕ) (j : ℕ) : Type 0 where
  from : ℕ
  nodes : List ℕ
  from_is : IsListedAt volumes v from
  nodes_are : named_nodes volumes nodes ≡ xs
  route : RouteBy L from nodes j

raise : (E L : ℕ → ℕ → Type 0) (volumes : List ℕ) → Names E L volumes → (v : ℕ) (xs : List ℕ) (w j : ℕ) → IsListedAt volumes w j → RouteBy E v xs w → Raised L volumes v xs j
raise E L volumes n v [] w j jw e =
    let i = n.from_there v w e in
    record { from = i.0; nodes = []; from_is = i.1; nodes_are = refl; route = n.link i.0 j i.1.there jw.there (subst (λ (z : ℕ). E z (volume_at volumes j)) (sym i.1.is) (subst (λ (z : ℕ). E v z) (sym jw.is) e)) }
raise E L volumes n v (x ∷ xs) w j jw r =
    let t = raise E L volumes n x xs w j jw r.1 in
    let i = n.from_there v x r.0 in
    record {
      from = i.0;
      nodes = t.from ∷ t.nodes;
      from_is = i.1;
      nodes_are = ap (λ z. z ∷ named_nodes volumes t.nodes) t.from_is.is ∙ ap (λ z. x ∷ z) t.nodes_are;
      route = (n.link i.0 t.from i.1.there t.from_is.there (subst (λ (z : ℕ). E z (volume_at volumes t.from)) (sym i.1.is) (subst (λ (z : ℕ). E v z) (sym t.from_is.is) r.0)), t.route);
    }

-- a loop of volumes through a node's volume is one of nodes through the node
raise_loop : (E L : ℕ → ℕ → Type 0) (volumes : List ℕ) → Names E L volumes → (v : ℕ) (xs : List ℕ) (j : ℕ) → IsListedAt volumes v j → RouteBy E v xs v → (nodes : List ℕ) × (named_nodes volumes nodes ≡ xs) × RouteBy L j nodes j
raise_loop E L volumes n v xs j jv r =
    let t = raise E L volumes n v xs v j jv r in
    (t.nodes, t.nodes_are, subst (λ (z : ℕ). RouteBy L z t.nodes j) (one_place volumes v t.from j n.rising t.from_is jv) t.route)

begins : (E : ℕ → ℕ → Type 0) (v : ℕ) (xs : List ℕ) (w : ℕ) → RouteBy E v xs w → (x : ℕ) × E v x
begins E v [] w e = (w, e)
begins E v (x ∷ xs) w r = (x, r.0)

-- nodes stand in the order of their volumes
abbrev AllIn : ℕ → List ℕ → Type 0
AllIn bound [] = Unit {0}
AllIn bound (x ∷ xs) = (x < bound) × AllIn bound xs

route_in : (E L : ℕ → ℕ → Type 0) (volumes : List ℕ) → Names E L volumes → (i : ℕ) (xs : List ℕ) (j : ℕ) → RouteBy L i xs j → AllIn (length volumes) xs
route_in E L volumes n i [] j r = tt
route_in E L volumes n i (x ∷ xs) j r = ((n.edge i x r.0).1, route_in E L volumes n x xs j r.1)

no_later : (volumes : List ℕ) → IsRising volumes → (xs ys : List ℕ) → AllIn (length volumes) ys → IsNoLater xs ys → IsNoLater (named_nodes volumes xs) (named_nodes volumes ys)
no_later volumes rising [] ys a l = tt
no_later volumes rising (x ∷ xs) [] a l = l
no_later volumes rising (x ∷ xs) (y ∷ ys) a l = elim l [ inl lt ↦ inl (rising x y lt a.0) | inr s ↦ inr (ap (volume_at volumes) s.0, no_later volumes rising xs ys a.1 s.1) ]

pub named_told : (E L : ℕ → ℕ → Type 0) (volumes : List ℕ) → Names E L volumes → (first : ℕ) (rest : List ℕ) → IsToldBy L first rest → IsToldBy E (volume_at volumes first) (named_nodes volumes rest)
named_told E L volumes n first rest t =
    record { is_loop = lower E L volumes n first rest first t.is_loop; least = least; shortest = shortest; earliest = earliest }
  where
    here : IsListedAt volumes (volume_at volumes first) first
    here = let b = begins L first rest first t.is_loop in record { there = (n.edge first b.0 b.1).0; is = refl }

    same_length : (nodes xs : List ℕ) → named_nodes volumes nodes ≡ xs → length nodes ≡ length xs
    same_length nodes xs e = sym (length-map nodes (volume_at volumes)) ∙ ap length e

    least : (v : ℕ) (xs : List ℕ) → RouteBy E v xs v → volume_at volumes first ≤ v
    least v xs r =
        let b = begins E v xs v r in
        let k = n.from_there v b.0 b.1 in
        let q = raise_loop E L volumes n v xs k.0 k.1 r in
        let le : first ≤ k.0 = t.least k.0 q.0 q.2 in
        let is : volume_at volumes k.0 ≡ v = k.1.is in
        elim (cases_eq first k.0) [
          | inl e ↦ (let f : volume_at volumes first ≡ volume_at volumes k.0 = ap (volume_at volumes) e in omega arith)
          | inr ne ↦ (let lt : volume_at volumes first < volume_at volumes k.0 = n.rising first k.0 (omega arith) k.1.there in omega arith)
        ]

    shortest : (other : List ℕ) → RouteBy E (volume_at volumes first) other (volume_at volumes first) → length (named_nodes volumes rest) ≤ length other
    shortest other r =
        let q = raise_loop E L volumes n (volume_at volumes first) other first here r in
        let a : length rest ≤ length q.0 = t.shortest q.0 q.2 in
        let b : length q.0 ≡ length other = same_length q.0 other q.1 in
        let c : length rest ≡ length (named_nodes volumes rest) = same_length rest (named_nodes volumes rest) refl in
        omega arith

    earliest : (other : List ℕ) → RouteBy E (volume_at volumes first) other (volume_at volumes first) → length other ≡ length (named_nodes volumes rest) → IsNoLater (named_nodes volumes rest) other
    earliest other r l =
        let q = raise_loop E L volumes n (volume_at volumes first) other first here r in
        let a : length q.0 ≡ length rest = same_length q.0 other q.1 ∙ (l ∙ sym (same_length rest (named_nodes volumes rest) refl)) in
        subst (λ (z : List ℕ). IsNoLater (named_nodes volumes rest) z) q.1 (no_later volumes n.rising rest q.0 (route_in E L volumes n first q.0 first q.2) (t.earliest q.0 q.2 a))

pub named_none : (E L : ℕ → ℕ → Type 0) (volumes : List ℕ) → Names E L volumes → ToldBy L None → ToldBy E None
named_none E L volumes n t = λ v xs r. (let b = begins E v xs v r in let k = n.from_there v b.0 b.1 in let q = raise_loop E L volumes n v xs k.0 k.1 r in t k.0 q.0 q.2)

-- ---- the answer

pub none_answers : (rows : List Row) (volumes : List ℕ) (links : List Link) → AreOldVolumes rows volumes → AreLinked rows volumes links (length rows) 0 → ToldBy (HasLink links) None → LoopAnswer (row_shape rows) None
none_answers rows volumes links o l t = no_loop_is (row_shape rows) (named_none (Edge (row_shape rows)) (HasLink links) volumes (names_of rows volumes links o l) t)

pub some_answers : (rows : List Row) (volumes : List ℕ) (links : List Link) (nodes : List ℕ) (names : List VolId) → AreOldVolumes rows volumes → AreLinked rows volumes links (length rows) 0 → ToldBy (HasLink links) (Some nodes) →
    map (λ (w : VolId). w.0) names ≡ named_nodes volumes nodes → LoopAnswer (row_shape rows) (Some names)
some_answers rows volumes links [] names o l t e = absurd t
some_answers rows volumes links (v ∷ vs) [] o l t e = cc
some_answers rows volumes links (v ∷ vs) (w ∷ ws) o l t e =
    let first : w.0 ≡ volume_at volumes v = cc in
    let rest : map (λ (w : VolId). w.0) ws ≡ named_nodes volumes vs = cc in
    let n = named_told (Edge (row_shape rows)) (HasLink links) volumes (names_of rows volumes links o l) v vs t in
    told_loop_is (row_shape rows) w.0 (map (λ (w : VolId). w.0) ws) (subst (λ (z : ℕ). IsToldBy (Edge (row_shape rows)) z (map (λ (w : VolId). w.0) ws)) (sym first) (subst (λ (z : List ℕ). IsToldBy (Edge (row_shape rows)) (volume_at volumes v) z) (sym rest) n))

-- the nodes of a told loop are places of the list
pub told_in : (rows : List Row) (volumes : List ℕ) (links : List Link) (nodes : List ℕ) → AreOldVolumes rows volumes → AreLinked rows volumes links (length rows) 0 → ToldBy (HasLink links) (Some nodes) → AllBelow (length volumes) nodes
told_in rows volumes links [] o l t = absurd t
told_in rows volumes links (v ∷ vs) o l t =
    let n = names_of rows volumes links o l in
    let b = begins (HasLink links) v vs v t.is_loop in
    below (length volumes) (v ∷ vs) ((n.edge v b.0 b.1).0, route_in (Edge (row_shape rows)) (HasLink links) volumes n v vs v t.is_loop)
  where
    below : (bound : ℕ) (nodes : List ℕ) → AllIn bound nodes → AllBelow bound nodes
    below bound [] a k lt = absurd (omega arith)
    below bound (x ∷ xs) a zero lt = a.0
    below bound (x ∷ xs) a (suc k) lt = below bound xs a.1 k (omega arith)
