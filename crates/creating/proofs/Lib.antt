pub mod NewPool
