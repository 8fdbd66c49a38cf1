pub mod WayLemmas
pub mod PriceLemmas
pub mod LeastWay
pub mod SpanLemmas
